-- What is told of the last object before a place.
use Rattle.std.proofs.Common.{◌≡◌, ◌∙◌, ℕ, ◌+◌, ◌-◌, ◌*◌, ◌^◌, ◌<◌, List, length, sym, ap, arith, subst}
use Rattle.cb_blocks.specs.Parted.{Parted}
use Rattle.cb_blocks.specs.Rows.{place_in, row}
use Rattle.cb_slide.specs.Sliding.{EndsAt, Given, IsGiven, IsIn}

pub ends_on : (rows : List (List ℕ)) (part place at count : ℕ) → at ≡ part * 2 ^ 29 + place_in 256 (row rows part) place + 1 → EndsAt rows part (place + count) at count
ends_on rows part place at count is =
    record { behind = omega arith; there = λ some. is ∙ ap (λ n. part * 2 ^ 29 + place_in 256 (row rows part) n + 1) (let e : place ≡ place + count - count = omega arith in e) }

pub same_ends : (part : ℕ) (rows rows' : List (List ℕ)) (place place' at at' count count' : ℕ) → rows' ≡ rows → place' ≡ place → at' ≡ at → count' ≡ count → EndsAt rows part place at count → EndsAt rows' part place' at' count'
same_ends part rows rows' place place' at at' count count' rows_are place_is at_is count_is e =
    subst (λ r. EndsAt r part place' at' count') (sym rows_are) (subst (λ n. EndsAt rows part n at' count') (sym place_is) (subst (λ n. EndsAt rows part place n count') (sym at_is) (subst (λ n. EndsAt rows part place at n) (sym count_is) e)))

-- a part that has words has blocks
pub has_blocks : {given : Given} {part : ℕ} (memory : Parted) (scan : ℕ) → IsGiven given → IsIn given part → memory.rows ≡ given.heap.memory.rows → scan < length (row given.heap.memory.words part) → 0 < length (row memory.rows part)
has_blocks {given} {part} memory scan g is same less = omega (arith, ap (λ rows. length (row rows part)) same, g.heap.parted.exact part is.below, less)
