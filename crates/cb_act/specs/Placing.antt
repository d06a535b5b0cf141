-- What is left of roots and objects where one is placed: an exception of the machine's, or the object that `new` makes.
use Rattle.std.specs.Prelude.{ℕ, ◌+◌, List, [], ◌∷◌, ◌++◌, drop, length, Some}
use Rattle.cb_frames.specs.Tops.{placed, pushed, top_stack}
use Rattle.cb_heap.specs.Reading.{View}
use Rattle.cb_heap.specs.Shaped.{new_object}
use Rattle.cb_plain.specs.declared.shape.Shape.{Shape}
use Rattle.cb_plain.specs.declared.value.Value.TheVariants.{Ref}
use Rattle.cb_plain.specs.Roots.{with_pending}
use Rattle.cb_plain.specs.State.{State}
use Rattle.cb_plain.specs.Updates.{with_objects, with_roots}
use Rattle.cb_act.specs.Effects.{stacked}

-- an exception has a message, a cause and what was suppressed: three words
abbrev pub exception_size : ℕ
exception_size = 3

-- an exception without any becomes pending
abbrev pub thrown : List Shape → (site kind : ℕ) → View → View
thrown shapes site kind view =
    record { roots = with_pending view.roots (length view.objects + 1); objects = view.objects ++ Some (new_object shapes site kind exception_size) ∷ [] }

-- a new object is laid on the stack
abbrev pub made_object : List Shape → (site kind size : ℕ) → View → View
made_object shapes site kind size view =
    record { roots = pushed view.roots (Ref (length view.objects + 1)); objects = view.objects ++ Some (new_object shapes site kind size) ∷ [] }

-- and so is a new array, in place of its size
abbrev pub made_array : List Shape → (site kind size : ℕ) → View → View
made_array shapes site kind size view =
    record { roots = stacked view.roots (Ref (length view.objects + 1) ∷ drop 1 (top_stack view.roots)); objects = view.objects ++ Some (new_object shapes site kind size) ∷ [] }

-- a state with such roots and objects, the topmost frame at a place
abbrev pub with_view : State → View → State
with_view state view = with_objects (with_roots state view.roots) view.objects

abbrev pub at_place : View → ℕ → View
at_place view pc = record { roots = placed view.roots pc; objects = view.objects }
