-- Searches that came to their end.
use Rattle.std.proofs.Common.{◌≡◌, ◌∙◌, sym, ap, subst, arith, ℕ, zero, suc, ◌<◌, Bool, true, List, length, get_or, Option, Some, None}
use Rattle.std.specs.Prelude.{ℤ, IfNone}
use Rattle.cb_plain.specs.Amounts.{Amounts}
use Rattle.cb_dag.specs.Flows.{FromSource as SourceReached, GivenBack as GivenReached, IsCutOff, IsReached, IsReachedSet, Onwards as OnwardsReached, gain_at, negative, positive}
use Rattle.cb_dag.specs.Marks.{marked}
use Rattle.cb_flow.specs.declared.visit.Visit.{Visit}
use Rattle.cb_flow.specs.declared.visit.Way.{Way}
use Rattle.cb_flow.specs.declared.visit.Way.TheVariants.{FromSource, GivenBack, Onwards}
use Rattle.cb_flow.specs.Visits.{AreVisited, IsExplored, IsSearch, WayHolds, part_at, visit_at}

-- a search that begins
pub none_visited : (gains : List ℤ) (edges : List (ℕ × ℕ)) (flow : Amounts) (visits : List Visit) (seen : List Bool) → length visits ≡ length gains → length seen ≡ length gains
    → IsSearch gains edges flow visits 0 seen
none_visited gains edges flow visits seen visit_each seen_each = record {
  visit_each = visit_each;
  seen_each = seen_each;
  counted = omega arith;
  apart = λ x y low. absurd (omega (arith, low));
  marks = λ x low. absurd (omega (arith, low));
  are = λ x low. absurd (omega (arith, low));
}

pub if_none : {A P Q : Type 0} (o : Option A) → (P → Q) → IfNone o P → IfNone o Q
if_none None weaker is = weaker is
if_none (Some x) weaker is = is

pub explored_kept : (gains : List ℤ) (edges : List (ℕ × ℕ)) (flow : Amounts) (seen seen' : List Bool) (part : ℕ) → ((p : ℕ) → marked seen p ≡ true → marked seen' p ≡ true)
    → IsExplored gains edges flow seen part → IsExplored gains edges flow seen' part
explored_kept gains edges flow seen seen' part still is = record {
  onwards = λ i low end. still (get_or edges i (0, 0)).0 (is.onwards i low end);
  given_back = λ i low end some. still (get_or edges i (0, 0)).1 (is.given_back i low end some);
  full = is.full;
}

module _ (gains : List ℤ) (edges : List (ℕ × ℕ)) (flow : Amounts) (visits : List Visit) (count : ℕ) (seen : List Bool) (search : IsSearch gains edges flow visits count seen)
    (visited : AreVisited visits count seen) where
  reached_by : (x : ℕ) (way : Way) → x < count → ((y : ℕ) → y < x → IsReached gains edges flow (part_at visits y)) → WayHolds gains edges flow visits x (visit_at visits x) way
      → IsReached gains edges flow (part_at visits x)
  reached_by x FromSource low earlier holds =
      let some = (search.are x low).some in
      SourceReached (part_at visits x) (search.are x low).within (omega (arith, some, holds))
  reached_by x Onwards low earlier holds =
      OnwardsReached (part_at visits x) (part_at visits (visit_at visits x).parent) (visit_at visits x).edge (earlier (visit_at visits x).parent holds.0) holds.1 holds.2
  reached_by x GivenBack low earlier holds =
      GivenReached (part_at visits (visit_at visits x).parent) (part_at visits x) (visit_at visits x).edge (earlier (visit_at visits x).parent holds.0) holds.1 holds.2
      (let some = (search.are x low).some in omega (arith, some, holds.4))

  reached_below : (n x : ℕ) → x < n → x < count → IsReached gains edges flow (part_at visits x)
  reached_below zero x below low = absurd (omega (arith, below))
  reached_below (suc n) x below low =
      reached_by x (visit_at visits x).way low (λ y early. reached_below n y (omega (arith, early, below)) (omega (arith, early, low))) (search.are x low).holds

  pub reached_marked : (part : ℕ) → marked seen part ≡ true → IsReached gains edges flow part
  reached_marked part on =
      let found = visited part on in
      subst (IsReached gains edges flow) found.2 (reached_below (suc found.0) found.0 (omega arith) found.1)

  module _ (starts : (part : ℕ) → part < length gains → get_or flow.sources part 0 < positive (gain_at gains part) → marked seen part ≡ true)
      (explored : (x : ℕ) → x < count → IsExplored gains edges flow seen (part_at visits x)) where
    marked_reached : (part : ℕ) → IsReached gains edges flow part → marked seen part ≡ true
    marked_reached goal (SourceReached part low more) = starts part low more
    marked_reached goal (OnwardsReached p q i path low pair) =
        let found = visited q (marked_reached q path) in
        subst (λ (e : ℕ × ℕ). marked seen e.0 ≡ true) pair ((explored found.0 found.1).onwards i low (ap (λ (e : ℕ × ℕ). e.1) pair ∙ sym found.2))
    marked_reached goal (GivenReached p q i path low pair some) =
        let found = visited p (marked_reached p path) in
        subst (λ (e : ℕ × ℕ). marked seen e.1 ≡ true) pair ((explored found.0 found.1).given_back i low (ap (λ (e : ℕ × ℕ). e.0) pair ∙ sym found.2) some)

    pub reached_exactly : IsReachedSet gains edges flow seen
    reached_exactly = λ part low. (reached_marked part, marked_reached part)

    pub cut_off : IsCutOff gains edges flow
    cut_off = λ part low reached.
        let found = visited part (marked_reached part reached) in
        subst (λ n. get_or flow.sinks n 0 ≡ negative (gain_at gains n)) found.2 ((explored found.0 found.1).full)
