-- What a set gains, part by part.
use Rattle.std.proofs.Common.{◌≡◌, ◌∙◌, ap, refl, arith, ℕ, ◌+◌, ◌<◌, ◌≤◌, Bool, true, false, List, ◌∷◌, length, get_or, drop, Some, slice_get, sum_by}
use Rattle.std.specs.Prelude.{ℤ, pos, negsuc, ◌+ℤ◌, ◌≤ℤ◌}
use Rattle.std.proofs.lemmas.Int.{ints}
use Rattle.std.proofs.lemmas.Option.{get_or_from_slice_get}
use Rattle.std.proofs.lemmas.Bool.{both_ways}
use Rattle.std.proofs.lemmas.List.{drop_all, drop_more}
use Rattle.cb_dag.specs.Closed.{gain}
use Rattle.cb_dag.specs.Flows.{amount_at, gain_at, negative, positive}
use Rattle.cb_dag.specs.Places.{edges_at}
use Rattle.cb_dag.specs.declared.ends.End.{End}
use Rattle.cb_dag.proofs.Laws.{amounts_at}
use Rattle.cb_dag.specs.Marks.{marked}

at_front : (g : ℤ) (gains : List ℤ) (mark : Bool) (set : List Bool) → (mark ≡ true → gain (g ∷ gains) (mark ∷ set) ≡ g +ℤ gain gains set) × (mark ≡ false → gain (g ∷ gains) (mark ∷ set) ≡ gain gains set)
at_front g gains true set = (λ _. refl, λ off. absurd (both_ways true off refl))
at_front g gains false set = (λ on. absurd (both_ways false refl on), λ _. refl)

module _ (gains : List ℤ) (set : List Bool) (i : ℕ) (low : i < length gains) (each : length set ≡ length gains) where
  opened : gain (drop i gains) (drop i set) ≡ gain (gain_at gains i ∷ drop (i + 1) gains) (marked set i ∷ drop (i + 1) set)
  opened =
      ap (λ all. gain all (drop i set)) (drop_more gains i (pos 0) low)
      ∙ ap (gain (gain_at gains i ∷ drop (i + 1) gains)) (drop_more set i false (omega (arith, low, each)))

  pub gain_in : marked set i ≡ true → gain (drop i gains) (drop i set) ≡ gain_at gains i +ℤ gain (drop (i + 1) gains) (drop (i + 1) set)
  gain_in on = opened ∙ (at_front (gain_at gains i) (drop (i + 1) gains) (marked set i) (drop (i + 1) set)).0 on

  pub gain_out : marked set i ≡ false → gain (drop i gains) (drop i set) ≡ gain (drop (i + 1) gains) (drop (i + 1) set)
  gain_out off = opened ∙ (at_front (gain_at gains i) (drop (i + 1) gains) (marked set i) (drop (i + 1) set)).1 off

pub gain_end : (gains : List ℤ) (set : List Bool) (i : ℕ) → length gains ≡ i → gain (drop i gains) (drop i set) ≡ pos 0
gain_end gains set i is = ap (λ all. gain all (drop i set)) (drop_all i gains (omega (arith, is)))

-- a gain of bounded size
pub gain_bounds : (g : ℤ) (most : ℕ) → positive g ≤ most → negative g ≤ most → (g ≤ℤ pos most) × (pos 0 ≤ℤ (g +ℤ pos most))
gain_bounds (pos n) most high low = (omega (arith, ints, high), omega (arith, ints))
gain_bounds (negsuc n) most high low = (omega (arith, ints), omega (arith, ints, low))

-- what flows at a part
pub flows_at : (ends list : List ℕ) (end : End) (part : ℕ) (edges : List (ℕ × ℕ)) (arcs : List ℕ) (one read amount : ℕ) → slice_get ends part ≡ Some read → one ≡ read
    → list ≡ edges_at end part edges → amount ≡ sum_by (λ i. get_or arcs i 0) list → length arcs ≡ length edges → one + amount ≡ get_or ends part 0 + amount_at end part edges arcs
flows_at ends list end part edges arcs one read amount there is at sum each =
    let first : get_or ends part 0 ≡ read = get_or_from_slice_get ends part read 0 there in
    let rest : amount ≡ amount_at end part edges arcs = sum ∙ ap (sum_by (λ i. get_or arcs i 0)) at ∙ amounts_at end part edges arcs each in
    omega (arith, first, is, rest)
