-- Going over the constants of a pool by their indices.
use Rattle.std.proofs.Common.{◌≡◌, ℕ, zero, suc, ◌+◌, ◌-◌, List, [], ◌∷◌, IfSome, take, arith}
use Rattle.std.specs.List.{AllByRecursion, slice_get}
use Rattle.cb_text.specs.declared.constant.Constant.{Constant}
use Rattle.cb_text.specs.Pool.{constant_at}

-- what holds of each element holds of the one at a place
all_at : {X : Type 0} (P : X → Type 0) (items : List X) (place : ℕ) → AllByRecursion P items → IfSome (slice_get items place) P
all_at P [] place all = tt
all_at P (first ∷ items) zero all = all.0
all_at P (first ∷ items) (suc place) all = all_at P items place all.1

-- and it holds of those up to the one at a place
all_up_to : {X : Type 0} (P : X → Type 0) (items : List X) (place : ℕ) → IfSome (slice_get items place) P → AllByRecursion P (take place items) → AllByRecursion P (take (suc place) items)
all_up_to P [] place here all = tt
all_up_to P (first ∷ items) zero here all = (here, tt)
all_up_to P (first ∷ items) (suc place) here all = (all.0, all_up_to P items place here all.1)

-- the same of the constants of a pool, by their indices
pub all_at_index : (P : Constant → Type 0) (pool : List Constant) (index : ℕ) → AllByRecursion P pool → IfSome (constant_at pool index) P
all_at_index P pool zero all = tt
all_at_index P pool (suc before) all = all_at P pool before all

pub all_more : (P : Constant → Type 0) (pool : List Constant) (index : ℕ) → IfSome (constant_at pool index) P → AllByRecursion P (take (index - 1) pool) → AllByRecursion P (take (index + 1 - 1) pool)
all_more P pool zero here all = all
all_more P pool (suc before) here all =
    let more : suc before + 1 - 1 ≡ suc before = omega arith in
    let place : suc before - 1 ≡ before = omega arith in
    rw more (all_up_to P pool before here (rw place at all))
