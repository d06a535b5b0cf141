-- What constants are to instructions, by index.
use Rattle.std.proofs.Common.{◌≡◌, ◌∙◌, ap, refl, sym, Bool, true, false, ℕ, List, Option, None, Some, length, nat_lt, ◌+◌, ◌<◌, ◌≤◌, arith}
use Rattle.std.proofs.lemmas.Bool.{ltb-false, ltb-true}
use Rattle.std.proofs.lemmas.List.{get_or_past}
use Rattle.std.proofs.lemmas.List.FromFn.{get_or-map-range_with_len, length-map-range_with_len}
use Rattle.cb_text.specs.declared.constant.Constant.{Constant}
use Rattle.cb_text.specs.Naming.{member_at}
use Rattle.cb_link.specs.declared.meanings.Meaning.{Meaning}
use Rattle.cb_link.specs.Decoding.{basic_named}
use Rattle.cb_link.specs.Named.{named_at, or_nothing}
use Rattle.cb_link.specs.Program.{Linked}
use Rattle.cb_link.specs.Special.{special_named}
use Rattle.cb_link.specs.InnerPlaces.{class_of_member, meaning_of, meanings_in, meant_at, without_meaning}
use Rattle.cb_link.proofs.ConstantRows.{behind_pool, constant_is}

module _ (program : Linked) (class : ℕ) (pool : List Constant) where
  nothing_past : (index : ℕ) → length pool + 1 ≤ index → named_at program pool (Some index) ≡ or_nothing None
  nothing_past index past =
      sym (ap or_nothing (constant_is program.classes program.kinds program.constants pool index None (sym (behind_pool pool index past))))

  meaning_past : (index : ℕ) → length pool + 1 ≤ index → meaning_of program class pool index ≡ without_meaning
  meaning_past index past =
      let none = nothing_past index past in
      (λ i. record {
        named = none i;
        basic = basic_named program (none i);
        selected = special_named program (Some class) (class_of_member program.classes (member_at pool index)) (none i);
      })

  pub meant_is : (index : ℕ) → meant_at (meanings_in program class pool) (Some index) ≡ meaning_of program class pool index
  meant_is index = go (nat_lt index (length pool + 1)) refl where
    go : (low : Bool) → nat_lt index (length pool + 1) ≡ low → meant_at (meanings_in program class pool) (Some index) ≡ meaning_of program class pool index
    go true low =
        let within : index < length pool + 1 = ltb-true index (length pool + 1) low in
        get_or-map-range_with_len (meaning_of program class pool) 0 (length pool + 1) index index without_meaning within (omega arith)
    go false low =
        let past : length pool + 1 ≤ index = ltb-false index (length pool + 1) low in
        get_or_past (meanings_in program class pool) index without_meaning
        (let long = length-map-range_with_len (meaning_of program class pool) 0 (length pool + 1) in omega (arith, long, past))
        ∙ sym (meaning_past index past)

  pub meant_named : (index : Option ℕ) → (meant_at (meanings_in program class pool) index).named ≡ named_at program pool index
  meant_named None = refl
  meant_named (Some index) = ap (λ (meaning : Meaning). meaning.named) (meant_is index)

  pub meant_basic : (index : Option ℕ) → (meant_at (meanings_in program class pool) index).basic ≡ basic_named program (named_at program pool index)
  meant_basic None = refl
  meant_basic (Some index) = ap (λ (meaning : Meaning). meaning.basic) (meant_is index)

  pub meant_selected : (index : ℕ) → (meant_at (meanings_in program class pool) (Some index)).selected
      ≡ special_named program (Some class) (class_of_member program.classes (member_at pool index)) (named_at program pool (Some index))
  meant_selected index = ap (λ (meaning : Meaning). meaning.selected) (meant_is index)
