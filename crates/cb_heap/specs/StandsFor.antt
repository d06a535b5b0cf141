-- What roots and a store stand for.
use Rattle.std.specs.Prelude.{◌≡◌, Bool, List}
use Rattle.cb_plain.specs.State.{State}
use Rattle.cb_heap.specs.Closed.{IsClosed}
use Rattle.cb_heap.specs.Kept.{keep, residents}
use Rattle.cb_heap.specs.Reading.{View}

-- what is seen of a state when only some of its objects are kept
abbrev pub forget : List Bool → State → View
forget residents state = record { roots = state.roots; objects = keep residents state.objects }

-- a view stands for a state and those of its objects that are kept: it is the state but for the others, which nothing in it names
pub record StandsFor (view : View) (state : State) (kept : List Bool) : Type 0 where
  pub same : view ≡ forget kept state
  pub marks : residents view.objects ≡ kept
  pub closed : IsClosed view
