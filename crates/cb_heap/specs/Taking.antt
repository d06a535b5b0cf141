-- What a collection of the objects of some sites leaves.
use Rattle.std.specs.Prelude.{◌≡◌, ℕ, ◌↔◌, ◌⊎◌, Bool, true, false, List, Some, None, length, slice_get, suc}
use Rattle.cb_plain.specs.Reach.{IsReached}
use Rattle.cb_plain.specs.State.{Object}
use Rattle.cb_heap.specs.Kept.{keep}
use Rattle.cb_heap.specs.Reading.{View}

-- of the objects that are kept those stay whose sites aren't taken, and those that are reached
pub record IsTaken (taken : ℕ → Bool) (view : View) (after : List Bool) : Type 0 where
  pub count : length after ≡ length view.objects
  pub stays : (place : ℕ) → (object : Object) → slice_get view.objects place ≡ Some (Some object) →
      (slice_get after place ≡ Some true) ↔ ((taken object.site ≡ false) ⊎ IsReached view.roots view.objects (suc place))
  pub gone : (place : ℕ) → slice_get view.objects place ≡ Some None → slice_get after place ≡ Some false

-- what is left
abbrev pub left_of : View → List Bool → View
left_of view after = record { roots = view.roots; objects = keep after view.objects }
