-- Natives that give an object from a table, or a new one, which they enter where the table has a place for it (Java SE 8 API, java.lang; JLS
-- §5.1.7).
use Rattle.std.specs.Prelude.{◌≡◌, ◌<◌, ℕ, ◌+◌, ℤ, pos, ◌+ℤ◌, ◌≤◌, Bool, true, false, List, [], ◌∷◌, ◌++◌, length, Option, Some, None, slice_get, zero, suc}
use Rattle.std.specs.declared.result.Result.{Result}
use Rattle.std.specs.declared.result.Result.TheVariants.{Err, Ok}
use Rattle.cb_heap.specs.Reading.{View}
use Rattle.cb_library.specs.declared.native.Native.{Native}
use Rattle.cb_library.specs.declared.native.Native.TheVariants as natives
use Rattle.cb_link.specs.Having.{site_kinds}
use Rattle.cb_link.specs.Program.{Linked}
use Rattle.cb_machine.specs.Boxes.{offset}
use Rattle.cb_machine.specs.Machine.{Machine, kind_of_site, listed}
use Rattle.cb_machine.specs.Natives.{performed}
use Rattle.cb_machine.specs.Performing.{Call, Gives, Performed, stops}
use Rattle.cb_machine.specs.Plans.{Plan, leaving, object_of, with_left, with_one}
use Rattle.cb_plain.specs.Roots.{table_in, with_entry}
use Rattle.cb_plain.specs.State.{Number, Object, Roots, Tables, small_chars, small_numbers}
use Rattle.cb_plain.specs.Updates.{object_in, with_roots}
use Rattle.cb_plain.specs.declared.shape.Shape.{Shape}
use Rattle.cb_plain.specs.declared.shape.Shape.TheVariants.{Fields}
use Rattle.cb_plain.specs.declared.table.Table.{Table}
use Rattle.cb_plain.specs.declared.value.Value.{Value}
use Rattle.cb_plain.specs.declared.value.Value.TheVariants as values
use Rattle.cb_natives.specs.Answers.{Beside, call_on}
use Rattle.cb_natives.specs.Exceptions.{site_of}
use Rattle.cb_natives.specs.Making.{MayMake}
use Rattle.cb_natives.specs.declared.answers.Exception.{Exception}
use Rattle.cb_natives.specs.declared.kept_entries.Entry.{Entry}

-- which they are
abbrev pub makes_kept : Native → Bool
makes_kept natives.ObjectGetClass = true
makes_kept natives.IntegerValueOf = true
makes_kept natives.LongValueOf = true
makes_kept natives.CharacterValueOf = true
makes_kept natives.BooleanValueOf = true
makes_kept other = false

-- the tables have a place for the class of each kind, and one for each box that there is once
pub record HasTables (program : Linked) (tables : Tables) : Type 0 where
  pub classes : length tables.classes ≡ length program.kinds
  pub integers : length tables.integers ≡ small_numbers
  pub longs : length tables.longs ≡ small_numbers
  pub characters : length tables.characters ≡ small_chars
  pub booleans : length tables.booleans ≡ 2

-- each object is of a kind of the program
pub record HasKinds (program : Linked) (objects : List (Option Object)) : Type 0 where
  pub each : (serial : ℕ) (object : Object) → object_in objects serial ≡ Some object → object.kind < length program.kinds

-- an entry's place is one of its table, where it has one
abbrev pub IsIn : List ℕ → Option ℕ → Type 0
IsIn table None = Unit {0}
IsIn table (Some place) = place < length table

abbrev pub IsPlaced : Tables → Entry → Type 0
IsPlaced tables entry = IsIn (table_in tables entry.table) entry.place

-- the object that the table has there, 0 where there is none yet
abbrev pub found_at : List ℕ → Option ℕ → ℕ
found_at table None = 0
found_at table (Some place) = listed table place

abbrev pub found_in : Tables → Entry → ℕ
found_in tables entry = found_at (table_in tables entry.table) entry.place

-- an object is entered there
abbrev pub entered_at : Roots → Table → ℕ → Option ℕ → Roots
entered_at roots table serial None = roots
entered_at roots table serial (Some place) = with_entry roots table place serial

abbrev pub entered : Roots → Entry → ℕ → Roots
entered roots entry serial = entered_at roots entry.table serial entry.place

-- a new object, whose one word holds the entry's number, is placed and entered
abbrev pub numbered : Linked → Entry → Object
numbered program entry = object_of entry.site (kind_of_site program entry.site) (Number entry.number ∷ [])

abbrev pub with_new : Linked → Entry → View → View
with_new program entry view =
    record { roots = entered view.roots entry (length view.objects + 1); objects = view.objects ++ Some (numbered program entry) ∷ [] }

abbrev pub places_new : Call → Entry → Plan
places_new call entry =
    with_left
    (with_one (leaving call.state) entry.site (kind_of_site call.machine.program entry.site) (Number entry.number ∷ []))
    (with_roots call.state (entered call.state.roots entry (length call.state.objects + 1)))

-- what is given: the object that the table has, or the new one where it has none
abbrev pub kept_or_new : Call → Entry → ℕ → Performed
kept_or_new call entry zero = Gives (places_new call entry) (values.Ref (length call.state.objects + 1) ∷ [])
kept_or_new call entry (suc other) = Gives (leaving call.state) (values.Ref (suc other) ∷ [])

abbrev pub gives_kept : Call → Entry → Performed
gives_kept call entry = kept_or_new call entry (found_in call.state.roots.tables entry)

-- objects of a site may be placed, whose one word is a number
pub record MayPlace (program : Linked) (shapes : List Shape) (site : ℕ) : Type 0 where
  pub sites : site < length (site_kinds program)
  pub field : slice_get shapes (kind_of_site program site) ≡ Some (Fields (false ∷ []))

-- a native gives the object of an entry, or throws
pub record Finds (objects : List (Option Object)) (native : Native) (arguments : List Value) (entry : Entry) : Type 0 where
  pub performs : (machine : Machine) (beside : Beside)
      → performed machine (call_on machine objects beside).state native arguments ≡ Some (gives_kept (call_on machine objects beside) entry)
  pub low : (program : Linked) (tables : Tables) → HasTables program tables → HasKinds program objects → IsPlaced tables entry
  pub placed : (program : Linked) (shapes : List Shape) → MayMake program shapes → MayPlace program shapes entry.site
  pub site : entry.site < 32

abbrev pub FindsOr : List (Option Object) → Native → List Value → Result Entry Exception → Type 0
FindsOr objects native arguments (Ok entry) = Finds objects native arguments entry
FindsOr objects native arguments (Err exception) =
    (machine : Machine) (beside : Beside)
    → performed machine (call_on machine objects beside).state native arguments ≡ stops (call_on machine objects beside) (site_of exception)

-- the place of the box of a number in a table of boxes, which has one from -128 on
abbrev pub IsSmall : ℤ → Option ℕ → Type 0
IsSmall number (Some place) = (number +ℤ offset ≡ pos place) × (place < small_numbers)
IsSmall number None = (place : ℕ) → number +ℤ offset ≡ pos place → small_numbers ≤ place

-- and that of the box of a char, from 0 on
abbrev pub IsLow : ℕ → Option ℕ → Type 0
IsLow unit (Some place) = (unit ≡ place) × (place < small_chars)
IsLow unit None = small_chars ≤ unit
