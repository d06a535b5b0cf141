-- What `Enum.valueOf` does (Java SE 8 API, java.lang.Enum): it gives a constant or throws, or the class has to be initialised first.
use Rattle.std.specs.Prelude.{◌≡◌, ℕ, Bool, true, false, List, [], ◌∷◌, Option, Some, option_and_then}
use Rattle.cb_heap.specs.Reading.{View, read_value}
use Rattle.cb_library.specs.declared.native.Native.{Native}
use Rattle.cb_library.specs.declared.native.Native.TheVariants as natives
use Rattle.cb_link.specs.Calls.{class_of_kind}
use Rattle.cb_link.specs.Program.{Linked}
use Rattle.cb_machine.specs.Enums.{kind_of_number}
use Rattle.cb_machine.specs.Initialising.{begun_upon}
use Rattle.cb_machine.specs.Natives.{performed}
use Rattle.cb_machine.specs.Performing.{Call, Performed, Stops, gives, number_in, stops}
use Rattle.cb_plain.specs.State.{Content}
use Rattle.cb_plain.specs.declared.value.Value.{Value}
use Rattle.cb_natives.specs.Exceptions.{site_of}
use Rattle.cb_natives.specs.Making.{machine_in, state_in}
use Rattle.cb_natives.specs.declared.enums.EnumAnswer.{EnumAnswer}
use Rattle.cb_natives.specs.declared.enums.EnumAnswer.TheVariants as enums

-- the class of a class object, by the word of it that holds a kind
abbrev pub class_of_word : Linked → Option Content → Option ℕ
class_of_word program word = option_and_then (class_of_kind program) (option_and_then kind_of_number (option_and_then number_in word))

-- a call, whatever its limit of frames, and whatever was read and printed
abbrev pub call_in : Linked → View → (frames : ℕ) → (input printed : List ℕ) → Call
call_in program view frames input printed = record { machine = machine_in program frames; state = state_in view input printed }

-- an answer as a call has it. Where a class begins to be initialised, the call is made again behind that
abbrev pub found_as : (ℕ → ℕ) → Call → EnumAnswer → Option Performed
found_as index call (enums.Gives value) = gives call (read_value index value ∷ [])
found_as index call (enums.Throws exception) = stops call (site_of exception)
found_as index call (enums.Begins class) = Some (Stops (begun_upon call.machine call.state call.state.roots.frames class))

-- of the class that begins, if one does
abbrev pub IfBegins : EnumAnswer → (ℕ → Type 0) → Type 0
IfBegins (enums.Begins class) holds = holds class
IfBegins other holds = Unit {0}

-- what is performed over these objects and roots is this
abbrev pub Comes : Linked → (ℕ → ℕ) → View → (Call → Option Performed) → EnumAnswer → Type 0
Comes program index view does result =
    (frames : ℕ) → (input printed : List ℕ) → does (call_in program view frames input printed) ≡ found_as index (call_in program view frames input printed) result

abbrev pub FindsConstant : Linked → (ℕ → ℕ) → View → List Value → EnumAnswer → Type 0
FindsConstant program index view arguments result =
    Comes program index view (λ call. performed call.machine call.state natives.EnumValueOf arguments) result

-- the native that finds a constant of an enum by its name
abbrev pub finds : Native → Bool
finds natives.EnumValueOf = true
finds other = false
