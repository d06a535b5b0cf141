-- What is known of parts after a collection is what is used in them.
use Rattle.std.proofs.Common.{◌≡◌, ◌∙◌, ℕ, ◌+◌, ◌^◌, ◌<◌, ◌≤◌, ◌==◌, Bool, true, false, List, length, get_or, refl, sym, ap, arith, subst, inl, inr}
use Rattle.std.proofs.lemmas.Bool.{cases_eq, eq-eqb, eqb-true}
use Rattle.std.proofs.lemmas.List.{get_or-map, length-map}
use Rattle.std.proofs.lemmas.Option.{get_or_from_slice_get, slice_get_within}
use Rattle.cb_plain.specs.Estimates.{AreFacts}
use Rattle.cb_plain.specs.declared.facts.Facts.{Facts}
use Rattle.cb_dag.specs.Marks.{marked}
use Rattle.cb_blocks.specs.Parted.{Parted}
use Rattle.cb_blocks.specs.Rows.{row}
use Rattle.cb_partheap.specs.Heaps.{Heap}
use Rattle.cb_collector.specs.Collecting.{fact_behind, facts_behind, survived}
use Rattle.cb_collector.specs.Held.{KnowsParts}
use Rattle.cb_collector.proofs.Sweeps.{Leaves, known_at, parts_same, rows_fewer, rows_of}

-- so many words are used in a part of this number
pub record Uses (part words : ℕ) (of : Facts) : Type 0 where
  pub number : of.part ≡ part
  pub words_are : of.used ≡ words
  pub are : AreFacts of

survivors_use : (part before now : ℕ) (of : Facts) (empty : Bool) → (of.used == 0) ≡ empty → Uses part before of → now ≤ before → Uses part now (survived of now)
survivors_use part before now of true is uses less =
    let none : of.used ≡ 0 = eqb-true of.used 0 is in
    rw is (record {
      number = uses.number;
      words_are = (let e : of.used ≡ now = omega (arith, none, uses.words_are, less) in e);
      are = (let a = uses.are in record { sum = (let e : of.kept + 0 ≡ of.used = omega (arith, a.sum, none) in e); most = a.most; live = a.live; some = a.some; last = a.last });
    })
survivors_use part before now of false is uses less =
    let most : of.used ≤ 2 ^ 28 = uses.are.most in
    let words : of.used ≡ before = uses.words_are in
    elim (cases_eq of.used 0) [
      | inl none ↦ absurd (cc (is, eq-eqb of.used 0 none))
      | inr some ↦
          rw is (record {
            number = uses.number;
            words_are = refl;
            are = record {
              sum = (let e : now + 0 ≡ now = omega arith in e);
              most = (let e : now ≤ 2 ^ 28 = omega (arith, most, words, less) in e);
              live = (let e : now ≤ of.used = omega (arith, words, less) in e);
              some = (let e : 1 ≤ of.used = omega (arith, some) in e);
              last = most;
            };
          })
    ]

behind_uses : (set : List Bool) (rows : ℕ → ℕ) (part before : ℕ) (of : Facts) (taken : Bool) → marked set of.part ≡ taken → Uses part before of → rows part ≤ before → (marked set part ≡ false → rows part ≡ before) → Uses part (rows part) (fact_behind set rows of)
behind_uses set rows part before of true is uses less same =
    rw is (subst (λ n. Uses part (rows part) (survived of n)) (ap rows (sym uses.number)) (survivors_use part before (rows part) of (of.used == 0) refl uses less))
behind_uses set rows part before of false is uses less same =
    let kept : rows part ≡ before = same (ap (marked set) (sym uses.number) ∙ is) in
    rw is (record { number = uses.number; words_are = uses.words_are ∙ sym kept; are = (let a = uses.are in record { sum = a.sum; most = a.most; live = a.live; some = a.some; last = a.last }) })

pub knows_again : (set : List Bool) (old middle new : Heap) (stays : List Bool) (words : Parted) (facts after : List Facts) → Leaves set old middle new stays → words ≡ new.memory → KnowsParts old facts → after ≡ facts_behind set (rows_of words) facts → KnowsParts new after
knows_again set old middle new stays words facts after l same knows is =
    subst (KnowsParts new) (sym is)
    (record {
      each = length-map facts (fact_behind set (rows_of words)) ∙ knows.each ∙ sym (parts_same set old middle new stays l);
      known = λ part of there.
          let below : part < length facts = omega (arith, slice_get_within (facts_behind set (rows_of words) facts) part of there, length-map facts (fact_behind set (rows_of words))) in
          let within : part < length old.memory.words = omega (arith, below, knows.each) in
          let was : Facts = get_or facts part of in
          let it : fact_behind set (rows_of words) was ≡ of = sym (get_or-map (fact_behind set (rows_of words)) facts part of of below) ∙ get_or_from_slice_get (facts_behind set (rows_of words) facts) part of of there in
          let knew = known_at old facts part of knows below in
          let rows_are : rows_of words part ≡ length (row new.memory.words part) = ap (λ (m : Parted). length (row m.words part)) same in
          let uses : Uses part (length (row old.memory.words part)) was = record { number = knew.number; words_are = knew.words; are = knew.are } in
          let now : Uses part (rows_of words part) (fact_behind set (rows_of words) was) =
          behind_uses set (rows_of words) part (length (row old.memory.words part)) was (marked set was.part) refl uses (omega (arith, rows_are, rows_fewer set old middle new stays l part within))
          (λ out. rows_are ∙ ap length (l.outside part out)) in
          let here : Uses part (rows_of words part) of = subst (Uses part (rows_of words part)) it now in
          record { number = here.number; words = here.words_are ∙ rows_are; are = here.are };
    })
