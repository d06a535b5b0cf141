-- References of one object that follow what sites allow.
use Rattle.std.specs.Prelude.{ℕ, Bool, IsTrue, List, Option, Some}
use Rattle.cb_heap.specs.Store.{may_point}
use Rattle.cb_plain.specs.Reach.{Points}
use Rattle.cb_plain.specs.State.{Content, Object, Reference}

-- each reference in an object is to one whose site is allowed
pub record FollowsFrom (allows : ℕ → ℕ → Bool) (objects : List (Option Object)) (one : ℕ) : Type 0 where
  pub each : (other : ℕ) → Points objects one other → IsTrue (may_point allows objects one other)

-- an object may refer to what a word refers to
abbrev pub MayRefer : (ℕ → ℕ → Bool) → List (Option Object) → (one : ℕ) → Option Content → Type 0
MayRefer allows objects one (Some (Reference other)) = IsTrue (may_point allows objects one other)
MayRefer allows objects one content = Unit {0}
