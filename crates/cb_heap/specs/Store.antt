-- Words of the trait of stores.
use Rattle.std.specs.Prelude.{◌≡◌, ℕ, Bool, true, false, List, Option, Some, None, IsTrue, zero, suc}
use Rattle.std.specs.declared.result.Result.{Result}
use Rattle.std.specs.declared.result.Result.TheVariants.{Err}
use Rattle.cb_plain.specs.State.{Object}
use Rattle.cb_plain.specs.Updates.{object_in}
use Rattle.cb_heap.specs.declared.no_room.NoRoom.{NoRoom}
use Rattle.cb_heap.specs.declared.no_room.NoRoom.TheVariants.{ReportFault}
use Rattle.cb_heap.specs.Kept.{is_held}
use Rattle.cb_heap.specs.Reading.{serial_of}

-- an answer that says that the report couldn't be written
abbrev pub IsFault : Result (Unit {0}) NoRoom → Type 0
IsFault result = result ≡ Err ReportFault

-- the places of kept objects read as they did
abbrev pub ReadsAsBefore : List (Option Object) → (before after : ℕ → ℕ) → Type 0
ReadsAsBefore objects before after =
    (place : ℕ) → IsTrue (is_held objects (serial_of before place)) → serial_of after place ≡ serial_of before place

-- whether an object may refer to another, whose sites tell it, or to none
abbrev site_pair : (ℕ → ℕ → Bool) → Option Object → Option Object → Bool
site_pair allows None other = false
site_pair allows (Some one) None = false
site_pair allows (Some one) (Some other) = allows one.site other.site

abbrev pub may_point : (ℕ → ℕ → Bool) → List (Option Object) → (one other : ℕ) → Bool
may_point allows objects one zero = true
may_point allows objects one (suc place) = site_pair allows (object_in objects one) (object_in objects (suc place))
