-- The kinds of classes are their numbers, where each has a name of its own.
use Rattle.std.proofs.Common.{◌≡◌, ◌∙◌, ap, refl, sym, arith, ℕ, zero, suc, ◌+◌, Bool, true, false, not, cond, List, [], ◌∷◌, ◌++◌, filter, map, Option, Some, None, option_map, slice_get}
use Rattle.std.specs.Cmp.Lexicographic.{bytes_decides}
use Rattle.std.specs.List.{AllByRecursion, flat_map}
use Rattle.std.proofs.lemmas.Bool.{false≢true}
use Rattle.std.proofs.lemmas.List.{append_assoc}
use Rattle.std.proofs.lemmas.Option.{same_Some, slice_get-map}
use Rattle.cb_classfile.specs.declared.class.ClassFile.{ClassFile}
use Rattle.cb_kinds.specs.Kinds.{kinds_of_name}
use Rattle.cb_kinds.specs.Texts.{EachOnce, firsts, number_of, same_text}
use Rattle.cb_link.specs.Having.{IsWhole}
use Rattle.cb_link.specs.Making.{class_kinds, fixed_kinds}
use Rattle.cb_link.specs.Numbers.{name_of}
use Rattle.cb_link.specs.Program.{Linked}
use Rattle.cb_safety.specs.ClassNames.{AreOwnKinds, NamedOnce}
use Rattle.cb_safety.proofs.Assigned.{never}
use Rattle.cb_safety.proofs.Searching.{position_here, position_later}

-- ---- texts that stand once

pub apart : (first : List ℕ) (texts : List (List ℕ)) (place : ℕ) (other : List ℕ) → EachOnce (first ∷ texts) → slice_get texts place ≡ Some other → same_text other first ≡ false
apart first texts place other once is = go (same_text other first) refl where
  go : (test : Bool) → same_text other first ≡ test → test ≡ false
  go true same =
      absurd (omega (arith, same_Some 0 (suc place) (sym (position_here (same_text other) first texts same) ∙ once.own (suc place) other is)))
  go false same = refl

behind_first : (found : Option ℕ) (number : ℕ) → option_map (λ turn. 1 + turn) found ≡ Some (suc number) → found ≡ Some number
behind_first None number is = never is
behind_first (Some turn) number is = ap {B = Option ℕ} Some (omega (arith, same_Some (1 + turn) (suc number) is))

pub rest_once : (first : List ℕ) (texts : List (List ℕ)) → EachOnce (first ∷ texts) → EachOnce texts
rest_once first texts once = record {
  own = λ number text is.
      behind_first (number_of texts text) number
      (sym (position_later (same_text text) first texts (apart first texts number text once is)) ∙ once.own (suc number) text is);
}

differs : (first other : List ℕ) → same_text other first ≡ false → not (same_text first other) ≡ true
differs first other none = go (same_text first other) refl where
  go : (test : Bool) → same_text first other ≡ test → not test ≡ true
  go true same = absurd (false≢true (sym none ∙ (bytes_decides other first).1 (sym ((bytes_decides first other).0 same))))
  go false same = refl

all_apart : (first : List ℕ) (texts : List (List ℕ)) → ((place : ℕ) (other : List ℕ) → slice_get texts place ≡ Some other → same_text other first ≡ false)
    → AllByRecursion (λ other. not (same_text first other) ≡ true) texts
all_apart first [] each = tt
all_apart first (other ∷ texts) each = (differs first other (each 0 other refl), all_apart first texts (λ place. each (suc place)))

-- ---- the first ones are all of them

kept_front : (keeps : List ℕ → Bool) (texts more : List (List ℕ)) → AllByRecursion (λ text. keeps text ≡ true) texts → filter keeps (texts ++ more) ≡ texts ++ filter keeps more
kept_front keeps [] more all = refl
kept_front keeps (text ∷ texts) more all =
    ap (λ (test : Bool). cond test (text ∷ filter keeps (texts ++ more)) (filter keeps (texts ++ more))) all.0
    ∙ ap (λ (own : List (List ℕ)). text ∷ own) (kept_front keeps texts more all.1)

pub firsts_front : (texts more : List (List ℕ)) → EachOnce texts → (rest : List (List ℕ)) × (firsts (texts ++ more) ≡ texts ++ rest)
firsts_front [] more once = (firsts more, refl)
firsts_front (first ∷ texts) more once =
    let (rest, is) = firsts_front texts more (rest_once first texts once) in (
      filter (λ (other : List ℕ). not (same_text first other)) rest,
      ap (λ (own : List (List ℕ)). first ∷ filter (λ (other : List ℕ). not (same_text first other)) own) is
          ∙ ap (λ (own : List (List ℕ)). first ∷ own)
          (kept_front (λ (other : List ℕ). not (same_text first other)) texts rest (all_apart first texts (λ place other is. apart first texts place other once is))),
    )

still_at : (texts more : List (List ℕ)) (place : ℕ) (text : List ℕ) → slice_get texts place ≡ Some text → slice_get (texts ++ more) place ≡ Some text
still_at [] more place text is = never is
still_at (first ∷ texts) more zero text is = is
still_at (first ∷ texts) more (suc place) text is = still_at texts more place text is

-- ---- classes

pub name_at : (classes : List ClassFile) (number : ℕ) (class : ClassFile) → slice_get classes number ≡ Some class → slice_get (map name_of classes) number ≡ Some (name_of class)
name_at classes number class is = slice_get-map name_of classes number ∙ ap (option_map name_of) is

pub own_kinds : (program : Linked) → IsWhole program → NamedOnce program.classes → AreOwnKinds program
own_kinds program whole once = record {
  kind = λ number class is.
      let names : List (List ℕ) = map name_of program.classes in
      let others : List (List ℕ) = flat_map class_kinds program.classes ++ flat_map kinds_of_name fixed_kinds in
      let (rest, first) = firsts_front names others once in
      ap (λ (kinds : List (List ℕ)). slice_get kinds number)
      (whole.kinds ∙ ap firsts (append_assoc names (flat_map class_kinds program.classes) (flat_map kinds_of_name fixed_kinds)) ∙ first)
      ∙ still_at names rest number (name_of class) (name_at program.classes number class is);
  number = λ number class is. once.own number (name_of class) (name_at program.classes number class is);
}
