-- What natives answer that place nothing but an exception.
use Rattle.std.specs.Prelude.{◌≡◌, ℤ, ℕ, Bool, true, false, List, [], ◌∷◌, Option, Some, None, option_and_then, take}
use Rattle.cb_library.specs.declared.native.Native.{Native}
use Rattle.cb_library.specs.declared.native.Native.TheVariants as natives
use Rattle.std.specs.declared.result.Result.{Result}
use Rattle.std.specs.declared.result.Result.TheVariants.{Err, Ok}
use Rattle.cb_machine.specs.Answering.{answer_native}
use Rattle.cb_machine.specs.Computing.{throws_by_zero}
use Rattle.cb_machine.specs.Performing.{Call, Performed, Stops, built_text, gives, on_object, stops}
use Rattle.cb_heap.specs.Reading.{serial_of}
use Rattle.cb_machine.specs.Machine.{Machine}
use Rattle.cb_machine.specs.Sites.{null_pointer}
use Rattle.cb_natives.specs.Exceptions.{site_of}
use Rattle.cb_natives.specs.Given.{units_in}
use Rattle.cb_plain.specs.State.{Object, Roots}
use Rattle.cb_plain.specs.declared.value.Value.{Value}
use Rattle.cb_plain.specs.declared.value.Value.TheVariants as values
use Rattle.cb_natives.specs.declared.answers.Answer.{Answer}
use Rattle.cb_natives.specs.declared.answers.Answer.TheVariants as answers
use Rattle.cb_natives.specs.declared.answers.Thrown.{Thrown}
use Rattle.cb_natives.specs.declared.answers.Thrown.TheVariants as thrown

-- an answer, and an exception, as a call of a native has them
abbrev pub given_as : Call → Answer → Option Performed
given_as call answers.Nothing = gives call []
given_as call (answers.Int number) = gives call (values.Int number ∷ [])
given_as call (answers.Long number) = gives call (values.Long number ∷ [])

abbrev pub thrown_as : Call → Thrown → Option Performed
thrown_as call (thrown.Of exception) = stops call (site_of exception)
thrown_as call thrown.ByZero = Some (Stops (throws_by_zero call.machine call.state))

abbrev pub answered : Call → Result Answer Thrown → Option Performed
answered call (Ok answer) = given_as call answer
answered call (Err exception) = thrown_as call exception

-- a call over these objects, whatever else there is
pub record Beside : Type 0 where
  pub roots : Roots
  pub input : List ℕ
  pub printed : List ℕ
  pub exit : Option ℤ

abbrev pub call_on : Machine → List (Option Object) → Beside → Call
call_on machine objects beside =
    record { machine = machine; state = record { roots = beside.roots; objects = objects; input = beside.input; printed = beside.printed; exit = beside.exit } }

-- a native that answers has this answer, or throws this
abbrev pub Tells : List (Option Object) → Native → List Value → Result Answer Thrown → Type 0
Tells objects native arguments result =
    (machine : Machine) (beside : Beside) → answer_native (call_on machine objects beside) native arguments ≡ answered (call_on machine objects beside) result

-- with the units of the array at a place of a store, which are those of a string, and throws where there is none
abbrev pub on_units : Call → (ℕ → ℕ) → (List ℕ → Option Performed) → Option ℕ → Option Performed
on_units call index go None = stops call null_pointer
on_units call index go (Some array) = go (units_in call.state.objects (serial_of index array))

-- with what was read, or the exception in place of it
abbrev pub on_given : {A : Type 0} → Call → (A → Option Performed) → Result A Thrown → Option Performed
on_given call go (Ok read) = go read
on_given call go (Err exception) = thrown_as call exception

-- with what was built so far
abbrev pub on_built : Call → ℕ → (List ℕ → Option Performed) → Option Performed
on_built call serial go = on_object call serial (λ builder. option_and_then go (built_text call.state builder))

-- with the units of an array of a store, or with so many of them
abbrev pub with_units : Call → (ℕ → ℕ) → (List ℕ → Option Performed) → ℕ → Option Performed
with_units call index go array = go (units_in call.state.objects (serial_of index array))

abbrev pub with_front : Call → (ℕ → ℕ) → (List ℕ → Option Performed) → ℕ × ℕ → Option Performed
with_front call index go front = go (take front.1 (units_in call.state.objects (serial_of index front.0)))

-- the natives that answer, but for `Enum.valueOf`: those of numbers alone; with them those of boxes; with these those of texts; and all
abbrev pub gives_math : Native → Bool
gives_math natives.MathAbsInt = true
gives_math natives.MathAbsLong = true
gives_math natives.MathMaxInt = true
gives_math natives.MathMaxLong = true
gives_math natives.MathMinInt = true
gives_math natives.MathMinLong = true
gives_math natives.MathFloorDivInt = true
gives_math natives.MathFloorDivLong = true
gives_math natives.MathFloorModInt = true
gives_math natives.MathFloorModLong = true
gives_math other = false

abbrev pub gives_box : Native → Bool
gives_box natives.IntegerParseInt = true
gives_box natives.IntegerCompare = true
gives_box natives.IntegerIntValue = true
gives_box natives.IntegerLongValue = true
gives_box natives.IntegerEquals = true
gives_box natives.IntegerHashCode = true
gives_box natives.IntegerCompareTo = true
gives_box natives.LongParseLong = true
gives_box natives.LongCompare = true
gives_box natives.LongIntValue = true
gives_box natives.LongLongValue = true
gives_box natives.LongEquals = true
gives_box natives.LongHashCode = true
gives_box natives.LongCompareTo = true
gives_box natives.CharacterCharValue = true
gives_box natives.CharacterEquals = true
gives_box natives.CharacterHashCode = true
gives_box natives.CharacterCompareTo = true
gives_box natives.BooleanBooleanValue = true
gives_box natives.BooleanEquals = true
gives_box natives.BooleanHashCode = true
gives_box natives.BooleanCompareTo = true
gives_box other = gives_math other

abbrev pub gives_text : Native → Bool
gives_text natives.StringLength = true
gives_text natives.StringIsEmpty = true
gives_text natives.StringCharAt = true
gives_text natives.StringEquals = true
gives_text natives.StringHashCode = true
gives_text natives.StringCompareTo = true
gives_text natives.StringIndexOfUnit = true
gives_text natives.StringIndexOfString = true
gives_text natives.StringStartsWith = true
gives_text natives.StringEndsWith = true
gives_text natives.StringBuilderLength = true
gives_text natives.StringBuilderCharAt = true
gives_text other = gives_box other

abbrev pub gives_answer : Native → Bool
gives_answer natives.ObjectHashCode = true
gives_answer natives.ObjectEquals = true
gives_answer natives.SystemIdentityHashCode = true
gives_answer natives.ClassDesiredAssertionStatus = true
gives_answer natives.Flush = true
gives_answer natives.EnumEquals = true
gives_answer natives.EnumHashCode = true
gives_answer natives.EnumCompareTo = true
gives_answer other = gives_text other
