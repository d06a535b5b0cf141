-- Natives that set the text of their own object: constructors of String and of StringBuilder, and those natives of StringBuilder that change
-- it (Java SE 8 API, java.lang).
use Rattle.std.specs.Prelude.{◌≡◌, ◌<◌, ◌≤◌, ◌^◌, pos, ℕ, ℤ, ◌+◌, ◌-◌, Bool, true, false, IfOk, IsTrue, List, [], ◌∷◌, ◌++◌, drop, length, map, replicate, take, Option, Some, None, nat_le, nat_lt, ◌==◌, if◌then◌else◌}
use Rattle.std.specs.List.{fold}
use Rattle.std.specs.declared.result.Result.{Result}
use Rattle.std.specs.declared.result.Result.TheVariants.{Err, Ok}
use Rattle.cb_heap.specs.Kept.{content_at, contents_at, is_kept, is_number, is_reference, with_content}
use Rattle.cb_heap.specs.Reading.{serial_of}
use Rattle.cb_library.specs.declared.native.Native.{Native}
use Rattle.cb_library.specs.declared.native.Native.TheVariants as natives
use Rattle.cb_link.specs.Program.{Linked}
use Rattle.cb_machine.specs.Builders.{grown, holds}
use Rattle.cb_machine.specs.Copying.{overwritten}
use Rattle.cb_machine.specs.Machine.{kind_of_site}
use Rattle.cb_machine.specs.Performing.{Call, Gives, Performed, count_slot, counted, on_object, stops, value_slot}
use Rattle.cb_machine.specs.Plans.{One, Placing, Plan, objects_of}
use Rattle.cb_machine.specs.Sites.{builder_characters, made_characters}
use Rattle.cb_machine.specs.Strings.{unit_contents}
use Rattle.cb_plain.specs.Requests.{add_want}
use Rattle.cb_plain.specs.State.{Content, Number, Object, Reference, words_of}
use Rattle.cb_plain.specs.Updates.{with_contents_in, with_objects}
use Rattle.cb_plain.specs.declared.value.Value.{Value}
use Rattle.cb_plain.specs.declared.value.Value.TheVariants as values
use Rattle.cb_plain.specs.declared.want.Want.{Want}
use Rattle.cb_natives.specs.Answers.{Beside, call_on}
use Rattle.cb_natives.specs.Exceptions.{site_of}
use Rattle.cb_natives.specs.Given.{HoldsUnits, units_in}
use Rattle.cb_natives.specs.Making.{machine_in}
use Rattle.cb_natives.specs.Pieces.{IsPiece, IsText, MayWrite, piece_units, text_units}
use Rattle.cb_natives.specs.declared.answers.Exception.{Exception}
use Rattle.cb_natives.specs.declared.own_change.Change.{Change}
use Rattle.cb_natives.specs.declared.own_change.Change.TheVariants as changes
use Rattle.cb_natives.specs.declared.own_change.Own.{Own}
use Rattle.cb_natives.specs.declared.own_reading.Built.{Built}
use Rattle.cb_natives.specs.declared.pieces.Piece.{Piece}
use Rattle.cb_natives.specs.declared.pieces.Piece.TheVariants as pieces
use Rattle.cb_natives.specs.declared.pieces.Text.{Text}

-- the natives: those that change a builder; and with them the constructors
abbrev pub changes_builder : Native → Bool
changes_builder natives.StringBuilderAppendString = true
changes_builder natives.StringBuilderAppendInt = true
changes_builder natives.StringBuilderAppendLong = true
changes_builder natives.StringBuilderAppendChar = true
changes_builder natives.StringBuilderAppendBoolean = true
changes_builder natives.StringBuilderAppendChars = true
changes_builder natives.StringBuilderSetCharAt = true
changes_builder natives.StringBuilderDeleteCharAt = true
changes_builder natives.StringBuilderSetLength = true
changes_builder other = false

abbrev pub makes_own : Native → Bool
makes_own natives.StringNew = true
makes_own natives.StringNewChars = true
makes_own natives.StringNewRange = true
makes_own natives.StringBuilderNew = true
makes_own natives.StringBuilderNewCapacity = true
makes_own natives.StringBuilderNewString = true
makes_own other = changes_builder other

-- what is placed, the serial of the next object, and what is left of the objects that there were
pub record Making : Type 0 where
  pub placed : List Placing
  pub next : ℕ
  pub left : List (Option Object)

abbrev pub planned : Call → Making → Plan
planned call making = record { placed = making.placed; next = making.next; left = with_objects call.state making.left }

abbrev pub objects_behind : Making → List (Option Object)
objects_behind making = fold (λ objects placing. objects ++ map Some (objects_of placing)) making.left making.placed

-- the words of an array with so much room and these units in front
abbrev pub roomy : List ℕ → ℕ → List Content
roomy units room = unit_contents (units ++ replicate (room - length units) 0)

-- an object refers to an array, and a builder counts its units
abbrev pub referring : List (Option Object) → (serial array : ℕ) → List (Option Object)
referring objects serial array = with_content objects serial value_slot (Reference array)

abbrev pub counting : List (Option Object) → (serial count : ℕ) → List (Option Object)
counting objects serial count = with_content objects serial count_slot (Number (pos count))

-- words that units are written over, and words of which the one at a place is left out: so many count then
abbrev pub closed_up : List Content → (place count : ℕ) → List Content
closed_up contents place count = take place contents ++ drop (place + 1) (take (count + 1) contents) ++ drop count contents

abbrev pub written : List (Option Object) → (array from : ℕ) → List ℕ → List (Option Object)
written objects array from units = with_contents_in objects array (overwritten (contents_at objects array) from (unit_contents units))

abbrev pub deleted : List (Option Object) → (array place count : ℕ) → List (Option Object)
deleted objects array place count = with_contents_in objects array (closed_up (contents_at objects array) place count)

-- an array is placed; or nothing is
abbrev pub placing : Linked → List (Option Object) → (site : ℕ) → List Content → List (Option Object) → Making
placing program objects site contents left =
    record { placed = One site (kind_of_site program site) contents ∷ []; next = length objects + 1 + 1; left = left }

abbrev pub in_place : List (Option Object) → (serial count : ℕ) → Making
in_place objects serial count = record { placed = []; next = length objects + 1; left = counting objects serial count }

-- what a change makes of the object of a serial
abbrev pub made_by : Linked → List (Option Object) → (ℕ → ℕ) → (serial : ℕ) → Change → Making
made_by program objects index serial (changes.Sets text size) =
    placing program objects made_characters (roomy (text_units program objects index text) size) (referring objects serial (length objects + 1))
made_by program objects index serial (changes.Builds text count room) =
    placing program objects builder_characters (roomy (text_units program objects index text) room)
    (counting (referring objects serial (length objects + 1)) serial count)
made_by program objects index serial (changes.Writes array from piece count) =
    in_place (written objects (serial_of index array) from (piece_units program objects index piece)) serial count
made_by program objects index serial (changes.Deletes array place count) = in_place (deleted objects (serial_of index array) place count) serial count

-- what it asks for
abbrev pub wanted_by : Change → List Want
wanted_by (changes.Sets text size) = add_want [] (record { site = made_characters; words = words_of size })
wanted_by (changes.Builds text count room) = add_want [] (record { site = builder_characters; words = words_of room })
wanted_by other = []

-- the builder itself is given back, or nothing
abbrev pub itself : Bool → ℕ → List Value
itself true serial = values.Ref serial ∷ []
itself false serial = []

-- what a native does, or throws in place of it
abbrev pub on_own : Call → (ℕ → ℕ) → Result Own Exception → Option Performed
on_own call index (Ok own) =
    Some (Gives (planned call (made_by call.machine.program call.state.objects index (serial_of index own.at) own.change)) (itself own.gives (serial_of index own.at)))
on_own call index (Err exception) = stops call (site_of exception)

-- an object may refer to a new array with so much room for a text
pub record MayPlace (program : Linked) (objects : List (Option Object)) (index : ℕ → ℕ) (serial : ℕ) (text : Text) (room : ℕ) : Type 0 where
  pub refers : is_reference (content_at objects serial value_slot) ≡ true
  pub is : IsText program objects index text
  pub fits : length (text_units program objects index text) ≤ room
  pub few : room < 2 ^ 31

-- a builder counts units
abbrev pub Counts : List (Option Object) → ℕ → Type 0
Counts objects serial = is_number (content_at objects serial count_slot) ≡ true

-- a builder's array, of units
pub record HasOwn (objects : List (Option Object)) (serial array : ℕ) : Type 0 where
  pub counts : Counts objects serial
  pub apart : array ≡ serial → ⊥
  pub kept : IsTrue (is_kept objects array)
  pub units : HoldsUnits objects array

-- a piece may be written into it
pub record MayPut (program : Linked) (objects : List (Option Object)) (index : ℕ → ℕ) (array from : ℕ) (piece : Piece) : Type 0 where
  pub is : IsPiece program objects index piece
  pub may : MayWrite index array from piece
  pub room : from + length (piece_units program objects index piece) ≤ length (contents_at objects array)

-- one of its units may be left out
pub record MayDelete (objects : List (Option Object)) (array place count : ℕ) : Type 0 where
  pub there : place ≤ count
  pub within : count < length (contents_at objects array)

abbrev pub MayChange : Linked → List (Option Object) → (ℕ → ℕ) → (serial : ℕ) → Change → Type 0
MayChange program objects index serial (changes.Sets text size) = MayPlace program objects index serial text size
MayChange program objects index serial (changes.Builds text count room) = MayPlace program objects index serial text room × Counts objects serial
MayChange program objects index serial (changes.Writes array from piece count) =
    HasOwn objects serial (serial_of index array) × MayPut program objects index (serial_of index array) from piece
MayChange program objects index serial (changes.Deletes array place count) =
    HasOwn objects serial (serial_of index array) × MayDelete objects (serial_of index array) place count

-- what a call of a native does to its own object, and that it can be done; or what it throws
abbrev pub call_of : Linked → List (Option Object) → (frames : ℕ) → Beside → Call
call_of program objects frames beside = call_on (machine_in program frames) objects beside

pub record Decides (program : Linked) (objects : List (Option Object)) (index : ℕ → ℕ) (done : Call → Option Performed) (result : Result Own Exception) : Type 0 where
  pub does : (frames : ℕ) (beside : Beside) → done (call_of program objects frames beside) ≡ on_own (call_of program objects frames beside) index result
  pub may : IfOk result (λ own. MayChange program objects index (serial_of index own.at) own.change)

pub record MayAppend (program : Linked) (objects : List (Option Object)) (index : ℕ → ℕ) (piece : Piece) : Type 0 where
  pub is : IsPiece program objects index piece
  pub may : (array from : ℕ) → MayWrite index array from piece

-- all units of an array, as a piece
pub record IsWhole (program : Linked) (objects : List (Option Object)) (index : ℕ → ℕ) (array : ℕ) (piece : Piece) : Type 0 where
  pub units : piece_units program objects index piece ≡ units_in objects (serial_of index array)
  pub appends : MayAppend program objects index piece

-- a text of these units
pub record IsTextOf (program : Linked) (objects : List (Option Object)) (index : ℕ → ℕ) (text : Text) (units : List ℕ) : Type 0 where
  pub is : IsText program objects index text
  pub same : text_units program objects index text ≡ units

-- what a builder has: its array, with so much room, of whose units so many count
pub record HasBuilt (objects : List (Option Object)) (index : ℕ → ℕ) (serial : ℕ) (built : Built) : Type 0 where
  pub number : ℤ
  pub refers : content_at objects serial value_slot ≡ Some (Reference (serial_of index built.array))
  pub counts : content_at objects serial count_slot ≡ Some (Number number)
  pub units : HoldsUnits objects (serial_of index built.array)
  pub room : built.room ≡ length (contents_at objects (serial_of index built.array))
  pub within : built.count ≤ built.room
  pub front : (list : List ℕ) → length list ≡ built.room → take built.count list ≡ counted list number

-- it holds other units from now on
abbrev pub held_by : Call → (serial : ℕ) → (gives : Bool) → List ℕ → Option Performed
held_by call serial gives units = on_object call serial (λ builder. holds call serial builder (itself gives serial) units)

-- how: in a new array, or in its own, where that has room for so many
abbrev pub renewed : Built → (kept : ℕ) → Piece → (count : ℕ) → Change
renewed built kept piece count =
    changes.Builds (record { first = pieces.Range built.array 0 kept; second = piece; third = pieces.Zeros 0 }) count (grown built.room count)

abbrev pub rebuilt : Built → (kept : ℕ) → Piece → (count : ℕ) → Change
rebuilt built kept piece count =
    if built.array == 0 then renewed built kept piece count
    else (if nat_lt built.room count then renewed built kept piece count else changes.Writes built.array kept piece count)

-- a number that isn't negative
abbrev pub natural_in : ℤ → Option ℕ
natural_in (pos natural) = Some natural
natural_in number = None

-- a number as a place of so many, and two as the start and the size of a range
abbrev pub place_in : ℤ → ℕ → Option ℕ
place_in (pos place) count = if nat_lt place count then Some place else None
place_in place count = None

abbrev pub range_in : ℤ → ℤ → ℕ → Option (ℕ × ℕ)
range_in (pos from) (pos size) count = if nat_le (from + size) count then Some (from, size) else None
range_in from size count = None

-- the place of the builder, or none
abbrev pub itself_at : Bool → ℕ → Option ℕ
itself_at true at = Some at
itself_at false at = None
