-- References pass in what natives give that give a number, an object that was there, or nothing.
use Rattle.std.proofs.Common.{ℕ, ℤ, pos, negsuc, ◌==◌, Bool, false, List, [], ◌∷◌, length, Option, Some, None, zero, suc, if◌then◌else◌, slice_get}
use Rattle.std.specs.Prelude.{option_and_then}
use Rattle.std.specs.Int.{Width, w32, w64}
use Rattle.std.specs.Ordering.{int_eq}
use Rattle.cb_library.specs.declared.native.Native.{Native}
use Rattle.cb_library.specs.declared.native.Native.TheVariants as natives
use Rattle.cb_machine.specs.Answering.{answer_native, begins, ends_with, equal_numbers, equal_texts, gives_bool, gives_found, gives_parsed, in_range, number_in, of_kind, on_ordinal, ordinal_slot, parses, unit_at}
use Rattle.cb_machine.specs.Computing.{throws_by_zero}
use Rattle.cb_machine.specs.Library as library
use Rattle.cb_machine.specs.Performing.{Performed, Stops, gives, gives_int, number_at, on_number, on_text}
use Rattle.cb_machine.specs.Sites.{number_format, string_index}
use Rattle.cb_plain.specs.declared.value.Value.{Value}
use Rattle.cb_plain.specs.declared.value.Value.TheVariants as values
use Rattle.cb_act.proofs.NativesWithinBasics.{Given, Passing, bool_passes, branch_passes, built_passes, by_zero_passes, call_in, int_passes, long_passes, number_passes, on_passes, plain_passes, stops_passes, text_passes, then_passes}

module _ (it : Passing) where
  unit_passes : (place : ℤ) (units : List ℕ) → Given it (unit_at (call_in it) place units)
  unit_passes (negsuc place) units = stops_passes it string_index
  unit_passes (pos place) units = go (slice_get units place) where
    go : (found : Option ℕ) → Given it (gives_found (call_in it) found)
    go None = stops_passes it string_index
    go (Some unit) = int_passes it (pos unit)

  -- boxes
  boxes_equal : (kind serial other : ℕ)
      → Given it (on_number (call_in it) serial (λ number. gives_bool (call_in it) (equal_numbers number (of_kind it.state.objects kind other))))
  boxes_equal kind serial other =
      number_passes it serial (λ number. gives_bool (call_in it) (equal_numbers number (of_kind it.state.objects kind other)))
      (λ number. bool_passes it (equal_numbers number (of_kind it.state.objects kind other)))

  boxes_compared : (order : ℤ → ℤ → ℤ) (serial other : ℕ)
      → Given it (on_number (call_in it) other (λ second. on_number (call_in it) serial (λ first. gives_int (call_in it) (order first second))))
  boxes_compared order serial other =
      number_passes it other (λ second. on_number (call_in it) serial (λ first. gives_int (call_in it) (order first second)))
      (λ second. number_passes it serial (λ first. gives_int (call_in it) (order first second)) (λ first. int_passes it (order first second)))

  int_of_box : (box : ℕ) (answer : ℤ → ℤ) → Given it (on_number (call_in it) box (λ number. gives (call_in it) (values.Int (answer number) ∷ [])))
  int_of_box box answer = number_passes it box (λ number. gives (call_in it) (values.Int (answer number) ∷ [])) (λ number. int_passes it (answer number))

  long_of_box : (box : ℕ) → Given it (on_number (call_in it) box (λ number. gives (call_in it) (values.Long number ∷ [])))
  long_of_box box = number_passes it box (λ number. gives (call_in it) (values.Long number ∷ [])) (λ number. long_passes it number)

  -- numbers in texts
  parsed_passes : (give : ℤ → Option Performed) → ((number : ℤ) → Given it (give number)) → (found : Option ℤ) → Given it (gives_parsed (call_in it) give found)
  parsed_passes give each None = stops_passes it number_format
  parsed_passes give each (Some number) = each number

  parses_pass : (width : Width) (give : ℤ → Option Performed) → ((number : ℤ) → Given it (give number)) → (serial : ℕ) → Given it (parses (call_in it) width give serial)
  parses_pass width give each zero = stops_passes it number_format
  parses_pass width give each (suc place) =
      text_passes it (suc place) (λ units. gives_parsed (call_in it) give (option_and_then (in_range width) (number_in units)))
      (λ units. parsed_passes give each (option_and_then (in_range width) (number_in units)))

  -- division
  divides_passes : (is : Bool) (one : Option Performed) → Given it one → Given it (if is then Some (Stops (throws_by_zero it.machine it.state)) else one)
  divides_passes is one given = branch_passes it is (Some (Stops (throws_by_zero it.machine it.state))) one (by_zero_passes it) given

  ordinal_passes : (serial : ℕ) (one : ℤ → Option Performed) → ((number : ℤ) → Given it (one number)) → Given it (on_ordinal (call_in it) serial one)
  ordinal_passes serial one each =
      on_passes it serial (λ object. option_and_then one (number_at object ordinal_slot))
      (λ object there. then_passes it one (number_at object ordinal_slot) (λ number is. each number))

  -- a number of a text, of two
  int_of_text : (string : ℕ) (answer : List ℕ → ℤ) → Given it (on_text (call_in it) string (λ units. gives_int (call_in it) (answer units)))
  int_of_text string answer = text_passes it string (λ units. gives_int (call_in it) (answer units)) (λ units. int_passes it (answer units))

  int_of_two : (string other : ℕ) (answer : List ℕ → List ℕ → ℤ)
      → Given it (on_text (call_in it) other (λ others. on_text (call_in it) string (λ units. gives_int (call_in it) (answer units others))))
  int_of_two string other answer =
      text_passes it other (λ others. on_text (call_in it) string (λ units. gives_int (call_in it) (answer units others)))
      (λ others. int_of_text string (λ units. answer units others))

  bool_of_two : (string other : ℕ) (answer : List ℕ → List ℕ → Bool)
      → Given it (on_text (call_in it) other (λ others. on_text (call_in it) string (λ units. gives_bool (call_in it) (answer units others))))
  bool_of_two string other answer =
      text_passes it other (λ others. on_text (call_in it) string (λ units. gives_bool (call_in it) (answer units others)))
      (λ others. text_passes it string (λ units. gives_bool (call_in it) (answer units others)) (λ units. bool_passes it (answer units others)))

  -- each of them
  pub answer_within : (native : Native) (arguments : List Value) → Given it (answer_native (call_in it) native arguments)
  answer_within natives.ObjectHashCode (values.Ref zero ∷ []) = plain_passes it
  answer_within natives.ObjectHashCode (values.Ref (suc place) ∷ []) = plain_passes it
  answer_within natives.ObjectEquals (values.Ref object ∷ values.Ref other ∷ []) = bool_passes it (object == other)
  answer_within natives.SystemIdentityHashCode (values.Ref zero ∷ []) = plain_passes it
  answer_within natives.SystemIdentityHashCode (values.Ref (suc place) ∷ []) = plain_passes it
  answer_within natives.ClassDesiredAssertionStatus (values.Ref class ∷ []) = bool_passes it false
  answer_within natives.Flush (values.Ref stream ∷ []) = plain_passes it
  answer_within natives.EnumEquals (values.Ref constant ∷ values.Ref other ∷ []) = bool_passes it (constant == other)
  answer_within natives.EnumHashCode (values.Ref zero ∷ []) = plain_passes it
  answer_within natives.EnumHashCode (values.Ref (suc place) ∷ []) = plain_passes it
  answer_within natives.EnumCompareTo (values.Ref constant ∷ values.Ref other ∷ []) =
      ordinal_passes other _ (λ number. ordinal_passes constant _ (λ own. plain_passes it))
  answer_within natives.StringLength (values.Ref string ∷ []) = int_of_text string _
  answer_within natives.StringIsEmpty (values.Ref string ∷ []) = text_passes it string _ (λ units. bool_passes it (length units == 0))
  answer_within natives.StringCharAt (values.Ref string ∷ values.Int place ∷ []) = text_passes it string _ (λ units. unit_passes place units)
  answer_within natives.StringEquals (values.Ref string ∷ values.Ref other ∷ []) =
      text_passes it string _ (λ units. bool_passes it (equal_texts it.state units (of_kind it.state.objects library.string other)))
  answer_within natives.StringHashCode (values.Ref string ∷ []) = int_of_text string _
  answer_within natives.StringCompareTo (values.Ref string ∷ values.Ref other ∷ []) = int_of_two string other _
  answer_within natives.StringIndexOfUnit (values.Ref string ∷ values.Int unit ∷ []) = int_of_text string _
  answer_within natives.StringIndexOfString (values.Ref string ∷ values.Ref other ∷ []) = int_of_two string other _
  answer_within natives.StringStartsWith (values.Ref string ∷ values.Ref other ∷ []) = bool_of_two string other begins
  answer_within natives.StringEndsWith (values.Ref string ∷ values.Ref other ∷ []) = bool_of_two string other ends_with
  answer_within natives.StringBuilderLength (values.Ref builder ∷ []) =
      built_passes it builder (λ own units. gives_int (call_in it) (pos (length units))) (λ own there units. int_passes it (pos (length units)))
  answer_within natives.StringBuilderCharAt (values.Ref builder ∷ values.Int place ∷ []) =
      built_passes it builder (λ own units. unit_at (call_in it) place units) (λ own there units. unit_passes place units)
  answer_within natives.IntegerParseInt (values.Ref string ∷ []) = parses_pass w32 (gives_int (call_in it)) (λ number. int_passes it number) string
  answer_within natives.IntegerCompare (values.Int a ∷ values.Int b ∷ []) = plain_passes it
  answer_within natives.IntegerIntValue (values.Ref box ∷ []) = int_of_box box _
  answer_within natives.IntegerLongValue (values.Ref box ∷ []) = long_of_box box
  answer_within natives.IntegerEquals (values.Ref box ∷ values.Ref other ∷ []) = boxes_equal library.integer box other
  answer_within natives.IntegerHashCode (values.Ref box ∷ []) = int_of_box box _
  answer_within natives.IntegerCompareTo (values.Ref box ∷ values.Ref other ∷ []) = boxes_compared _ box other
  answer_within natives.LongParseLong (values.Ref string ∷ []) =
      parses_pass w64 (λ number. gives (call_in it) (values.Long number ∷ [])) (λ number. long_passes it number) string
  answer_within natives.LongCompare (values.Long a ∷ values.Long b ∷ []) = plain_passes it
  answer_within natives.LongIntValue (values.Ref box ∷ []) = int_of_box box _
  answer_within natives.LongLongValue (values.Ref box ∷ []) = long_of_box box
  answer_within natives.LongEquals (values.Ref box ∷ values.Ref other ∷ []) = boxes_equal library.long box other
  answer_within natives.LongHashCode (values.Ref box ∷ []) = int_of_box box _
  answer_within natives.LongCompareTo (values.Ref box ∷ values.Ref other ∷ []) = boxes_compared _ box other
  answer_within natives.CharacterCharValue (values.Ref box ∷ []) = int_of_box box _
  answer_within natives.CharacterEquals (values.Ref box ∷ values.Ref other ∷ []) = boxes_equal library.character box other
  answer_within natives.CharacterHashCode (values.Ref box ∷ []) = int_of_box box _
  answer_within natives.CharacterCompareTo (values.Ref box ∷ values.Ref other ∷ []) = boxes_compared _ box other
  answer_within natives.BooleanBooleanValue (values.Ref box ∷ []) = int_of_box box _
  answer_within natives.BooleanEquals (values.Ref box ∷ values.Ref other ∷ []) = boxes_equal library.boolean box other
  answer_within natives.BooleanHashCode (values.Ref box ∷ []) = int_of_box box _
  answer_within natives.BooleanCompareTo (values.Ref box ∷ values.Ref other ∷ []) = boxes_compared _ box other
  answer_within natives.MathAbsInt (values.Int a ∷ []) = plain_passes it
  answer_within natives.MathAbsLong (values.Long a ∷ []) = plain_passes it
  answer_within natives.MathMaxInt (values.Int a ∷ values.Int b ∷ []) = plain_passes it
  answer_within natives.MathMaxLong (values.Long a ∷ values.Long b ∷ []) = plain_passes it
  answer_within natives.MathMinInt (values.Int a ∷ values.Int b ∷ []) = plain_passes it
  answer_within natives.MathMinLong (values.Long a ∷ values.Long b ∷ []) = plain_passes it
  answer_within natives.MathFloorDivInt (values.Int a ∷ values.Int b ∷ []) = divides_passes (int_eq b (pos 0)) _ (plain_passes it)
  answer_within natives.MathFloorDivLong (values.Long a ∷ values.Long b ∷ []) = divides_passes (int_eq b (pos 0)) _ (plain_passes it)
  answer_within natives.MathFloorModInt (values.Int a ∷ values.Int b ∷ []) = divides_passes (int_eq b (pos 0)) _ (plain_passes it)
  answer_within natives.MathFloorModLong (values.Long a ∷ values.Long b ∷ []) = divides_passes (int_eq b (pos 0)) _ (plain_passes it)
  answer_within native arguments = tt
