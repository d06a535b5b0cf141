-- Natives that give a number, an object that was there, or nothing.
use Rattle.std.proofs.Common.{refl, ℕ, ℤ, pos, negsuc, Bool, true, false, List, [], ◌∷◌, Option, Some, None, zero, suc, if◌then◌else◌}
use Rattle.std.specs.Prelude.{option_and_then, slice_get}
use Rattle.std.specs.Int.{Width, w32, w64}
use Rattle.std.specs.Ordering.{int_eq}
use Rattle.cb_library.specs.declared.native.Native.{Native}
use Rattle.cb_library.specs.declared.native.Native.TheVariants as natives
use Rattle.cb_machine.specs.Answering.{answer_native, gives_found, gives_parsed, in_range, number_in, on_ordinal, ordinal_slot, parses, unit_at}
use Rattle.cb_machine.specs.Computing.{throws_by_zero}
use Rattle.cb_machine.specs.Performing.{Performed, Stops, gives, gives_int, number_at, on_number, on_text}
use Rattle.cb_plain.specs.declared.value.Value.{Value}
use Rattle.cb_plain.specs.declared.value.Value.TheVariants as values
use Rattle.cb_beside.specs.Beside.{beside}
use Rattle.cb_beside.proofs.NativesBasics.{Alike, Apart, and_same, built_then, by_zero_alike, number_same, object_same, text_then, there}

module _ (it : Apart) where
  -- a unit of a text
  found_same : (found : Option ℕ) → Alike it (gives_found (there it) found) (gives_found it.own found)
  found_same None = refl
  found_same (Some unit) = refl

  unit_same : (place : ℤ) (units : List ℕ) → Alike it (unit_at (there it) place units) (unit_at it.own place units)
  unit_same (pos place) units = found_same (slice_get units place)
  unit_same (negsuc place) units = refl

  -- numbers in texts
  parsed_same : (one other : ℤ → Option Performed) → ((number : ℤ) → Alike it (one number) (other number)) → (found : Option ℤ)
      → Alike it (gives_parsed (there it) one found) (gives_parsed it.own other found)
  parsed_same one other each None = refl
  parsed_same one other each (Some number) = each number

  parses_same : (width : Width) (one other : ℤ → Option Performed) → ((number : ℤ) → Alike it (one number) (other number)) → (serial : ℕ)
      → Alike it (parses (there it) width one serial) (parses it.own width other serial)
  parses_same width one other each zero = refl
  parses_same width one other each (suc place) =
      text_then it (suc place)
      (λ units. gives_parsed (there it) one (option_and_then (in_range width) (number_in units)))
      (λ units. gives_parsed it.own other (option_and_then (in_range width) (number_in units)))
      (λ units. parsed_same one other each (option_and_then (in_range width) (number_in units)))

  -- division, and constants of enums
  divides_same : (is : Bool) (answer : List Value)
      → Alike it (if is then Some (Stops (throws_by_zero it.own.machine (beside it.own.state it.input it.printed))) else gives (there it) answer)
      (if is then Some (Stops (throws_by_zero it.own.machine it.own.state)) else gives it.own answer)
  divides_same true answer = by_zero_alike it
  divides_same false answer = refl

  ordinal_same : (serial : ℕ) (one other : ℤ → Option Performed) → ((number : ℤ) → Alike it (one number) (other number))
      → Alike it (on_ordinal (there it) serial one) (on_ordinal it.own serial other)
  ordinal_same serial one other each =
      object_same it serial (λ object. option_and_then one (number_at object ordinal_slot)) (λ object. option_and_then other (number_at object ordinal_slot))
      (λ object. and_same it one other (number_at object ordinal_slot) each)

  -- the number of a box, two of them, and two texts
  on_box : (box : ℕ) (answer : ℤ → List Value)
      → Alike it (on_number (there it) box (λ number. gives (there it) (answer number))) (on_number it.own box (λ number. gives it.own (answer number)))
  on_box box answer = number_same it box (λ number. gives (there it) (answer number)) (λ number. gives it.own (answer number)) (λ number. refl)

  two_boxes : (box other : ℕ) (answer : ℤ → ℤ → List Value)
      → Alike it
      (on_number (there it) other (λ second. on_number (there it) box (λ first. gives (there it) (answer first second))))
      (on_number it.own other (λ second. on_number it.own box (λ first. gives it.own (answer first second))))
  two_boxes box other answer =
      number_same it other
      (λ second. on_number (there it) box (λ first. gives (there it) (answer first second))) (λ second. on_number it.own box (λ first. gives it.own (answer first second)))
      (λ second. on_box box (λ first. answer first second))

  on_string : (string : ℕ) (answer : List ℕ → List Value)
      → Alike it (on_text (there it) string (λ units. gives (there it) (answer units))) (on_text it.own string (λ units. gives it.own (answer units)))
  on_string string answer = text_then it string (λ units. gives (there it) (answer units)) (λ units. gives it.own (answer units)) (λ units. refl)

  two_texts : (string other : ℕ) (answer : List ℕ → List ℕ → List Value)
      → Alike it
      (on_text (there it) other (λ others. on_text (there it) string (λ units. gives (there it) (answer units others))))
      (on_text it.own other (λ others. on_text it.own string (λ units. gives it.own (answer units others))))
  two_texts string other answer =
      text_then it other
      (λ others. on_text (there it) string (λ units. gives (there it) (answer units others))) (λ others. on_text it.own string (λ units. gives it.own (answer units others)))
      (λ others. on_string string (λ units. answer units others))

  -- each of them
  pub answer_same : (native : Native) (arguments : List Value) → Alike it (answer_native (there it) native arguments) (answer_native it.own native arguments)
  answer_same natives.ObjectHashCode (values.Ref zero ∷ []) = refl
  answer_same natives.ObjectHashCode (values.Ref (suc place) ∷ []) = refl
  answer_same natives.ObjectEquals (values.Ref object ∷ values.Ref other ∷ []) = refl
  answer_same natives.SystemIdentityHashCode (values.Ref zero ∷ []) = refl
  answer_same natives.SystemIdentityHashCode (values.Ref (suc place) ∷ []) = refl
  answer_same natives.ClassDesiredAssertionStatus (values.Ref class ∷ []) = refl
  answer_same natives.Flush (values.Ref stream ∷ []) = refl
  answer_same natives.EnumEquals (values.Ref constant ∷ values.Ref other ∷ []) = refl
  answer_same natives.EnumHashCode (values.Ref zero ∷ []) = refl
  answer_same natives.EnumHashCode (values.Ref (suc place) ∷ []) = refl
  answer_same natives.EnumCompareTo (values.Ref constant ∷ values.Ref other ∷ []) =
      ordinal_same other _ _ (λ second. ordinal_same constant _ _ (λ first. refl))
  answer_same natives.StringLength (values.Ref string ∷ []) = on_string string _
  answer_same natives.StringIsEmpty (values.Ref string ∷ []) = on_string string _
  answer_same natives.StringCharAt (values.Ref string ∷ values.Int place ∷ []) = text_then it string _ _ (unit_same place)
  answer_same natives.StringEquals (values.Ref string ∷ values.Ref other ∷ []) = on_string string _
  answer_same natives.StringHashCode (values.Ref string ∷ []) = on_string string _
  answer_same natives.StringCompareTo (values.Ref string ∷ values.Ref other ∷ []) = two_texts string other _
  answer_same natives.StringIndexOfUnit (values.Ref string ∷ values.Int unit ∷ []) = on_string string _
  answer_same natives.StringIndexOfString (values.Ref string ∷ values.Ref other ∷ []) = two_texts string other _
  answer_same natives.StringStartsWith (values.Ref string ∷ values.Ref other ∷ []) = two_texts string other _
  answer_same natives.StringEndsWith (values.Ref string ∷ values.Ref other ∷ []) = two_texts string other _
  answer_same natives.StringBuilderLength (values.Ref builder ∷ []) = built_then it builder _ _ (λ own units. refl)
  answer_same natives.StringBuilderCharAt (values.Ref builder ∷ values.Int place ∷ []) =
      built_then it builder (λ own units. unit_at (there it) place units) (λ own units. unit_at it.own place units) (λ own units. unit_same place units)
  answer_same natives.IntegerParseInt (values.Ref string ∷ []) =
      parses_same w32 (gives_int (there it)) (gives_int it.own) (λ number. refl) string
  answer_same natives.IntegerCompare (values.Int a ∷ values.Int b ∷ []) = refl
  answer_same natives.IntegerIntValue (values.Ref box ∷ []) = on_box box _
  answer_same natives.IntegerLongValue (values.Ref box ∷ []) = on_box box _
  answer_same natives.IntegerEquals (values.Ref box ∷ values.Ref other ∷ []) = on_box box _
  answer_same natives.IntegerHashCode (values.Ref box ∷ []) = on_box box _
  answer_same natives.IntegerCompareTo (values.Ref box ∷ values.Ref other ∷ []) = two_boxes box other _
  answer_same natives.LongParseLong (values.Ref string ∷ []) =
      parses_same w64 (λ number. gives (there it) (values.Long number ∷ [])) (λ number. gives it.own (values.Long number ∷ [])) (λ number. refl) string
  answer_same natives.LongCompare (values.Long a ∷ values.Long b ∷ []) = refl
  answer_same natives.LongIntValue (values.Ref box ∷ []) = on_box box _
  answer_same natives.LongLongValue (values.Ref box ∷ []) = on_box box _
  answer_same natives.LongEquals (values.Ref box ∷ values.Ref other ∷ []) = on_box box _
  answer_same natives.LongHashCode (values.Ref box ∷ []) = on_box box _
  answer_same natives.LongCompareTo (values.Ref box ∷ values.Ref other ∷ []) = two_boxes box other _
  answer_same natives.CharacterCharValue (values.Ref box ∷ []) = on_box box _
  answer_same natives.CharacterEquals (values.Ref box ∷ values.Ref other ∷ []) = on_box box _
  answer_same natives.CharacterHashCode (values.Ref box ∷ []) = on_box box _
  answer_same natives.CharacterCompareTo (values.Ref box ∷ values.Ref other ∷ []) = two_boxes box other _
  answer_same natives.BooleanBooleanValue (values.Ref box ∷ []) = on_box box _
  answer_same natives.BooleanEquals (values.Ref box ∷ values.Ref other ∷ []) = on_box box _
  answer_same natives.BooleanHashCode (values.Ref box ∷ []) = on_box box _
  answer_same natives.BooleanCompareTo (values.Ref box ∷ values.Ref other ∷ []) = two_boxes box other _
  answer_same natives.MathAbsInt (values.Int a ∷ []) = refl
  answer_same natives.MathAbsLong (values.Long a ∷ []) = refl
  answer_same natives.MathMaxInt (values.Int a ∷ values.Int b ∷ []) = refl
  answer_same natives.MathMaxLong (values.Long a ∷ values.Long b ∷ []) = refl
  answer_same natives.MathMinInt (values.Int a ∷ values.Int b ∷ []) = refl
  answer_same natives.MathMinLong (values.Long a ∷ values.Long b ∷ []) = refl
  answer_same natives.MathFloorDivInt (values.Int a ∷ values.Int b ∷ []) = divides_same (int_eq b (pos 0)) _
  answer_same natives.MathFloorDivLong (values.Long a ∷ values.Long b ∷ []) = divides_same (int_eq b (pos 0)) _
  answer_same natives.MathFloorModInt (values.Int a ∷ values.Int b ∷ []) = divides_same (int_eq b (pos 0)) _
  answer_same natives.MathFloorModLong (values.Long a ∷ values.Long b ∷ []) = divides_same (int_eq b (pos 0)) _
  answer_same native arguments = refl
