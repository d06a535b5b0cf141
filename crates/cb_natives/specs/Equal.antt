-- The text of the string at a place is that of another one, if there is one, whose array of units is at this place.
use Rattle.std.specs.Prelude.{ℕ, Bool, false, List, Option, Some, None}
use Rattle.cb_kinds.specs.Texts.{same_text}
use Rattle.cb_plain.specs.State.{Object}
use Rattle.cb_heap.specs.Reading.{serial_of}
use Rattle.cb_natives.specs.Given.{units_in}

abbrev pub equal_units : List (Option Object) → (ℕ → ℕ) → List ℕ → Option ℕ → Bool
equal_units objects index units None = false
equal_units objects index units (Some array) = same_text units (units_in objects (serial_of index array))
