-- References that follow what sites allow.
use Rattle.std.specs.Prelude.{◌≡◌, ℕ, Bool, true, List, Option, IsTrue}
use Rattle.cb_plain.specs.Reach.{Points}
use Rattle.cb_plain.specs.State.{Object}
use Rattle.cb_heap.specs.Store.{may_point}

-- each reference in an object is to one whose site is allowed
pub record Follows (allows : ℕ → ℕ → Bool) (objects : List (Option Object)) : Type 0 where
  pub each : (one other : ℕ) → Points objects one other → IsTrue (may_point allows objects one other)

-- with a site whose objects are taken, each site is taken whose objects may refer to them
pub record TakesPredecessors (allows : ℕ → ℕ → Bool) (taken : ℕ → Bool) : Type 0 where
  pub each : (one other : ℕ) → allows one other ≡ true → taken other ≡ true → taken one ≡ true
