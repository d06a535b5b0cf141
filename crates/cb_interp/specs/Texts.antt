-- The texts of strings, and the text that is told of an exception (JLS §3.10.5; Java SE 8 API, Throwable.toString).
use Rattle.std.specs.Prelude.{◌≡◌, ◌<◌, ◌≤◌, ◌++◌, ℕ, zero, suc, true, List, [], ◌∷◌, codes, length, map, take, Option, Some, OnErr, OnOk, option_and_then, option_map, slice_get, if◌then◌else◌, ◌==◌}
use Rattle.std.specs.Io.KnownBytes.{Appends}
use Rattle.std.specs.declared.result.Result.{Result}
use Rattle.cb_heap.specs.Kept.{content_at, is_reference}
use Rattle.cb_io.specs.Sink.{AppendsProperPrefix}
use Rattle.cb_io.specs.declared.failed.Failed.{Failed}
use Rattle.cb_link.specs.Program.{Linked}
use Rattle.cb_machine.specs.Performing.{reference_at, text_of}
use Rattle.cb_machine.specs.Texts.{class_name}
use Rattle.cb_names.specs.Signs.{dot, slash}
use Rattle.cb_plain.specs.State.{Object, Reference, State}
use Rattle.cb_plain.specs.Updates.{object_at, object_in}
use Rattle.cb_interp.specs.Printing.{HoldsUnits, array_of, is_text, string_text}

-- the units of the string of a serial
abbrev pub string_units : State → ℕ → Option (List ℕ)
string_units state serial = option_and_then (text_of state) (object_at state serial)

-- a unit of the name of a class, as it is told
abbrev pub dotted : ℕ → ℕ
dotted unit = if unit == slash then dot else unit

-- the message that an exception has stored, with what stands before it; nothing where it is null
abbrev pub message_slot : ℕ
message_slot = 0

abbrev pub message_units : State → ℕ → Option (List ℕ)
message_units state zero = Some []
message_units state (suc place) = option_map (λ units. codes ": " ++ units) (string_units state (suc place))

-- what is told of an exception: its class, and its message behind that
abbrev pub exception_units : Linked → State → Object → Option (List ℕ)
exception_units program state exception =
    option_map (λ message. class_name program exception.kind ++ message) (option_and_then (message_units state) (reference_at exception message_slot))

-- a string can be read: its first word is null or names an array of chars
pub record IsString (objects : List (Option Object)) (serial : ℕ) : Type 0 where
  pub text : is_text objects serial ≡ true
  pub units : HoldsUnits objects (array_of objects serial)

-- so can an exception: it is of a kind of the program, and its message is null or a string
pub record IsTellable (program : Linked) (objects : List (Option Object)) (serial : ℕ) : Type 0 where
  pub object : Object
  pub there : object_in objects serial ≡ Some object
  pub kind : object.kind < length program.kinds
  pub word : is_reference (content_at objects serial message_slot) ≡ true
  pub message : (place : ℕ) → content_at objects serial message_slot ≡ Some (Reference (suc place)) → IsString objects (suc place)

-- what is told of a message, by the objects alone
abbrev pub message_text : List (Option Object) → ℕ → List ℕ
message_text objects zero = []
message_text objects (suc place) = codes ": " ++ string_text objects (suc place)

-- units are what is told of the exception of a serial
abbrev pub TellsException : Linked → List (Option Object) → ℕ → List ℕ → Type 0
TellsException program objects serial units =
    (state : State) → state.objects ≡ objects → option_and_then (exception_units program state) (object_at state serial) ≡ Some units

-- so many units stand before the first slash of a name, or are all of it
pub record IsPlain (name : List ℕ) (count : ℕ) : Type 0 where
  pub within : count ≤ length name
  pub plain : map dotted (take count name) ≡ take count name
  pub end : count < length name → slice_get name count ≡ Some slash

-- a name is what stands before its first slash, the slash, and what stands behind it
pub record IsCut (name front behind : List ℕ) : Type 0 where
  pub whole : name ≡ front ++ slash ∷ behind
  pub plain : map dotted front ≡ front

-- bytes were written whole, or a call failed within them
pub record Writes (taken takes : Option (List ℕ)) (bytes : List ℕ) (result : Result (Unit {0}) Failed) : Type 0 where
  pub all : OnOk result (Appends taken takes bytes)
  pub part : OnErr result (AppendsProperPrefix taken takes bytes)
