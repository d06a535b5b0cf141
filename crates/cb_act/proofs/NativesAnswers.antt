-- Natives that give a number, an object that was there, or nothing, of a state with changed objects.
use Rattle.std.proofs.Common.{◌≡◌, ◌∙◌, ap, refl, ℕ, ℤ, pos, negsuc, ◌==◌, Bool, true, false, List, [], ◌∷◌, length, Option, Some, None, zero, suc, if◌then◌else◌, slice_get}
use Rattle.std.specs.Prelude.{option_and_then}
use Rattle.std.specs.Int.{Width, w32, w64}
use Rattle.std.specs.Ordering.{int_eq}
use Rattle.cb_library.specs.declared.native.Native.{Native}
use Rattle.cb_library.specs.declared.native.Native.TheVariants as natives
use Rattle.cb_machine.specs.Answering.{answer_native, equal_numbers, equal_text, equal_texts, gives_bool, gives_found, gives_parsed, in_range, number_in, of_kind, on_ordinal, ordinal_slot, parses, unit_at}
use Rattle.cb_machine.specs.Computing.{throws_by_zero}
use Rattle.cb_machine.specs.Library as library
use Rattle.cb_machine.specs.Performing.{Performed, Stops, gives, gives_int, number_at, on_number, on_text}
use Rattle.cb_machine.specs.Sites.{number_format, string_index}
use Rattle.cb_machine.specs.Testing.{int_of}
use Rattle.cb_plain.specs.declared.value.Value.{Value}
use Rattle.cb_plain.specs.declared.value.Value.TheVariants as values
use Rattle.cb_plain.specs.State.{Object}
use Rattle.cb_plain.specs.Updates.{object_at}
use Rattle.cb_act.specs.Changing.{Passes, changed_state}
use Rattle.cb_act.proofs.NativesBasics.{Changed, Held, Same, branch_same, built_then, by_zero_same, changed_call, first, gives_same, inside_of, number_same, object_same, own_call, second, stops_same, text_of_same, text_then, then_same}

abbrev its_kind : ℕ → Object → Option Object
its_kind kind object = if object.kind == kind then Some object else None

module _ (it : Changed) where
  unit_same : (place : ℤ) (units : List ℕ) → Same it (unit_at (changed_call it) place units) (unit_at (own_call it) place units)
  unit_same (negsuc place) units = stops_same it string_index
  unit_same (pos place) units = go (slice_get units place) where
    go : (found : Option ℕ) → Same it (gives_found (changed_call it) found) (gives_found (own_call it) found)
    go None = stops_same it string_index
    go (Some unit) = gives_same it (values.Int (pos unit) ∷ [])

  -- objects of a class
  of_kind_same : (kind serial : ℕ) → Passes it.test serial → of_kind (changed_state it.change it.state).objects kind serial ≡ of_kind it.state.objects kind serial
  of_kind_same kind serial passes = ap (option_and_then (its_kind kind)) (it.unseen.same serial passes)

  texts_alike : (units : List ℕ) (kind serial : ℕ) → Passes it.test serial → (found : Option Object) → object_at it.state serial ≡ found
      → equal_texts (changed_state it.change it.state) units (option_and_then (its_kind kind) found) ≡ equal_texts it.state units (option_and_then (its_kind kind) found)
  texts_alike units kind serial passes None there = refl
  texts_alike units kind serial passes (Some object) there = go (object.kind == kind) where
    go : (is : Bool)
        → equal_texts (changed_state it.change it.state) units (if is then Some object else None) ≡ equal_texts it.state units (if is then Some object else None)
    go false = refl
    go true = ap (equal_text units) (text_of_same it object (inside_of it serial passes object there))

  equal_same : (units : List ℕ) (kind serial : ℕ) → Passes it.test serial
      → equal_texts (changed_state it.change it.state) units (of_kind (changed_state it.change it.state).objects kind serial) ≡ equal_texts it.state units (of_kind it.state.objects kind serial)
  equal_same units kind serial passes =
      ap (equal_texts (changed_state it.change it.state) units) (of_kind_same kind serial passes) ∙ texts_alike units kind serial passes (object_at it.state serial) refl

  -- boxes
  boxes_equal : (kind serial other : ℕ) → Passes it.test serial → Passes it.test other
      → Same it
      (on_number (changed_call it) serial (λ number. gives_bool (changed_call it) (equal_numbers number (of_kind (changed_state it.change it.state).objects kind other))))
      (on_number (own_call it) serial (λ number. gives_bool (own_call it) (equal_numbers number (of_kind it.state.objects kind other))))
  boxes_equal kind serial other passes also =
      number_same it serial passes
      (λ number. gives_bool (changed_call it) (equal_numbers number (of_kind (changed_state it.change it.state).objects kind other)))
      (λ number. gives_bool (own_call it) (equal_numbers number (of_kind it.state.objects kind other)))
      (λ number. ap (λ (found : Option Object). gives_bool (changed_call it) (equal_numbers number found)) (of_kind_same kind other also)
      ∙ gives_same it (int_of (equal_numbers number (of_kind it.state.objects kind other)) ∷ []))

  boxes_compared : (order : ℤ → ℤ → ℤ) (serial other : ℕ) → Passes it.test serial → Passes it.test other
      → Same it
      (on_number (changed_call it) other (λ second. on_number (changed_call it) serial (λ first. gives_int (changed_call it) (order first second))))
      (on_number (own_call it) other (λ second. on_number (own_call it) serial (λ first. gives_int (own_call it) (order first second))))
  boxes_compared order serial other passes also =
      number_same it other also
      (λ second. on_number (changed_call it) serial (λ first. gives_int (changed_call it) (order first second)))
      (λ second. on_number (own_call it) serial (λ first. gives_int (own_call it) (order first second)))
      (λ second. number_same it serial passes
      (λ first. gives_int (changed_call it) (order first second)) (λ first. gives_int (own_call it) (order first second))
      (λ first. gives_same it (values.Int (order first second) ∷ [])))

  -- numbers in texts
  parsed_same : (one other : ℤ → Option Performed) → ((number : ℤ) → Same it (one number) (other number)) → (found : Option ℤ)
      → Same it (gives_parsed (changed_call it) one found) (gives_parsed (own_call it) other found)
  parsed_same one other each None = stops_same it number_format
  parsed_same one other each (Some number) = each number

  parses_same : (width : Width) (one other : ℤ → Option Performed) → ((number : ℤ) → Same it (one number) (other number)) → (serial : ℕ) → Passes it.test serial
      → Same it (parses (changed_call it) width one serial) (parses (own_call it) width other serial)
  parses_same width one other each zero passes = stops_same it number_format
  parses_same width one other each (suc place) passes =
      text_then it (suc place) passes
      (λ units. gives_parsed (changed_call it) one (option_and_then (in_range width) (number_in units)))
      (λ units. gives_parsed (own_call it) other (option_and_then (in_range width) (number_in units)))
      (λ units. parsed_same one other each (option_and_then (in_range width) (number_in units)))

  -- division
  divides_same : (is : Bool) (answer : List Value)
      → Same it (if is then Some (Stops (throws_by_zero it.machine (changed_state it.change it.state))) else gives (changed_call it) answer)
      (if is then Some (Stops (throws_by_zero it.machine it.state)) else gives (own_call it) answer)
  divides_same is answer =
      branch_same it is (Some (Stops (throws_by_zero it.machine (changed_state it.change it.state)))) (Some (Stops (throws_by_zero it.machine it.state)))
      (gives (changed_call it) answer) (gives (own_call it) answer) (by_zero_same it) (gives_same it answer)

  ordinal_same : (serial : ℕ) → Passes it.test serial → (one other : ℤ → Option Performed) → ((number : ℤ) → Same it (one number) (other number))
      → Same it (on_ordinal (changed_call it) serial one) (on_ordinal (own_call it) serial other)
  ordinal_same serial passes one other each =
      object_same it serial passes (λ object. option_and_then one (number_at object ordinal_slot)) (λ object. option_and_then other (number_at object ordinal_slot))
      (λ object there. then_same it one other (number_at object ordinal_slot) (λ number is. each number))

  -- the number of a box, and a text
  on_box : (box : ℕ) → Held it (values.Ref box ∷ []) → (answer : ℤ → List Value)
      → Same it (on_number (changed_call it) box (λ number. gives (changed_call it) (answer number))) (on_number (own_call it) box (λ number. gives (own_call it) (answer number)))
  on_box box held answer =
      number_same it box (first it box [] held) (λ number. gives (changed_call it) (answer number)) (λ number. gives (own_call it) (answer number))
      (λ number. gives_same it (answer number))

  two_texts : (string other : ℕ) → Held it (values.Ref string ∷ values.Ref other ∷ []) → (answer : List ℕ → List ℕ → List Value)
      → Same it
      (on_text (changed_call it) other (λ others. on_text (changed_call it) string (λ units. gives (changed_call it) (answer units others))))
      (on_text (own_call it) other (λ others. on_text (own_call it) string (λ units. gives (own_call it) (answer units others))))
  two_texts string other held answer =
      text_then it other (second it (values.Ref string) other [] held)
      (λ others. on_text (changed_call it) string (λ units. gives (changed_call it) (answer units others)))
      (λ others. on_text (own_call it) string (λ units. gives (own_call it) (answer units others)))
      (λ others. text_then it string (first it string (values.Ref other ∷ []) held)
      (λ units. gives (changed_call it) (answer units others)) (λ units. gives (own_call it) (answer units others))
      (λ units. gives_same it (answer units others)))

  -- each of them
  pub answer_same : (native : Native) (arguments : List Value) → Held it arguments
      → Same it (answer_native (changed_call it) native arguments) (answer_native (own_call it) native arguments)
  answer_same natives.ObjectHashCode (values.Ref zero ∷ []) held = gives_same it _
  answer_same natives.ObjectHashCode (values.Ref (suc place) ∷ []) held = gives_same it _
  answer_same natives.ObjectEquals (values.Ref object ∷ values.Ref other ∷ []) held = gives_same it _
  answer_same natives.SystemIdentityHashCode (values.Ref zero ∷ []) held = gives_same it _
  answer_same natives.SystemIdentityHashCode (values.Ref (suc place) ∷ []) held = gives_same it _
  answer_same natives.ClassDesiredAssertionStatus (values.Ref class ∷ []) held = gives_same it _
  answer_same natives.Flush (values.Ref stream ∷ []) held = gives_same it _
  answer_same natives.EnumEquals (values.Ref constant ∷ values.Ref other ∷ []) held = gives_same it _
  answer_same natives.EnumHashCode (values.Ref zero ∷ []) held = gives_same it _
  answer_same natives.EnumHashCode (values.Ref (suc place) ∷ []) held = gives_same it _
  answer_same natives.EnumCompareTo (values.Ref constant ∷ values.Ref other ∷ []) held =
      ordinal_same other (second it (values.Ref constant) other [] held) _ _
      (λ number. ordinal_same constant (first it constant (values.Ref other ∷ []) held) _ _ (λ own. gives_same it _))
  answer_same natives.StringLength (values.Ref string ∷ []) held = text_then it string (first it string [] held) _ _ (λ units. gives_same it _)
  answer_same natives.StringIsEmpty (values.Ref string ∷ []) held = text_then it string (first it string [] held) _ _ (λ units. gives_same it _)
  answer_same natives.StringCharAt (values.Ref string ∷ values.Int place ∷ []) held =
      text_then it string (first it string (values.Int place ∷ []) held) _ _ (λ units. unit_same place units)
  answer_same natives.StringEquals (values.Ref string ∷ values.Ref other ∷ []) held =
      text_then it string (first it string (values.Ref other ∷ []) held) _ _
      (λ units. ap (λ (is : Bool). gives_bool (changed_call it) is) (equal_same units library.string other (second it (values.Ref string) other [] held)) ∙ gives_same it _)
  answer_same natives.StringHashCode (values.Ref string ∷ []) held = text_then it string (first it string [] held) _ _ (λ units. gives_same it _)
  answer_same natives.StringCompareTo (values.Ref string ∷ values.Ref other ∷ []) held = two_texts string other held _
  answer_same natives.StringIndexOfUnit (values.Ref string ∷ values.Int unit ∷ []) held =
      text_then it string (first it string (values.Int unit ∷ []) held) _ _ (λ units. gives_same it _)
  answer_same natives.StringIndexOfString (values.Ref string ∷ values.Ref other ∷ []) held = two_texts string other held _
  answer_same natives.StringStartsWith (values.Ref string ∷ values.Ref other ∷ []) held = two_texts string other held _
  answer_same natives.StringEndsWith (values.Ref string ∷ values.Ref other ∷ []) held = two_texts string other held _
  answer_same natives.StringBuilderLength (values.Ref builder ∷ []) held =
      built_then it builder (first it builder [] held)
      (λ own units. gives_int (changed_call it) (pos (length units))) (λ own units. gives_int (own_call it) (pos (length units)))
      (λ own there units. gives_same it (values.Int (pos (length units)) ∷ []))
  answer_same natives.StringBuilderCharAt (values.Ref builder ∷ values.Int place ∷ []) held =
      built_then it builder (first it builder (values.Int place ∷ []) held)
      (λ own units. unit_at (changed_call it) place units) (λ own units. unit_at (own_call it) place units) (λ own there units. unit_same place units)
  answer_same natives.IntegerParseInt (values.Ref string ∷ []) held =
      parses_same w32 (gives_int (changed_call it)) (gives_int (own_call it)) (λ number. gives_same it (values.Int number ∷ [])) string (first it string [] held)
  answer_same natives.IntegerCompare (values.Int a ∷ values.Int b ∷ []) held = gives_same it _
  answer_same natives.IntegerIntValue (values.Ref box ∷ []) held = on_box box held _
  answer_same natives.IntegerLongValue (values.Ref box ∷ []) held = on_box box held _
  answer_same natives.IntegerEquals (values.Ref box ∷ values.Ref other ∷ []) held =
      boxes_equal library.integer box other (first it box (values.Ref other ∷ []) held) (second it (values.Ref box) other [] held)
  answer_same natives.IntegerHashCode (values.Ref box ∷ []) held = on_box box held _
  answer_same natives.IntegerCompareTo (values.Ref box ∷ values.Ref other ∷ []) held =
      boxes_compared _ box other (first it box (values.Ref other ∷ []) held) (second it (values.Ref box) other [] held)
  answer_same natives.LongParseLong (values.Ref string ∷ []) held =
      parses_same w64 (λ number. gives (changed_call it) (values.Long number ∷ [])) (λ number. gives (own_call it) (values.Long number ∷ []))
      (λ number. gives_same it (values.Long number ∷ [])) string (first it string [] held)
  answer_same natives.LongCompare (values.Long a ∷ values.Long b ∷ []) held = gives_same it _
  answer_same natives.LongIntValue (values.Ref box ∷ []) held = on_box box held _
  answer_same natives.LongLongValue (values.Ref box ∷ []) held = on_box box held _
  answer_same natives.LongEquals (values.Ref box ∷ values.Ref other ∷ []) held =
      boxes_equal library.long box other (first it box (values.Ref other ∷ []) held) (second it (values.Ref box) other [] held)
  answer_same natives.LongHashCode (values.Ref box ∷ []) held = on_box box held _
  answer_same natives.LongCompareTo (values.Ref box ∷ values.Ref other ∷ []) held =
      boxes_compared _ box other (first it box (values.Ref other ∷ []) held) (second it (values.Ref box) other [] held)
  answer_same natives.CharacterCharValue (values.Ref box ∷ []) held = on_box box held _
  answer_same natives.CharacterEquals (values.Ref box ∷ values.Ref other ∷ []) held =
      boxes_equal library.character box other (first it box (values.Ref other ∷ []) held) (second it (values.Ref box) other [] held)
  answer_same natives.CharacterHashCode (values.Ref box ∷ []) held = on_box box held _
  answer_same natives.CharacterCompareTo (values.Ref box ∷ values.Ref other ∷ []) held =
      boxes_compared _ box other (first it box (values.Ref other ∷ []) held) (second it (values.Ref box) other [] held)
  answer_same natives.BooleanBooleanValue (values.Ref box ∷ []) held = on_box box held _
  answer_same natives.BooleanEquals (values.Ref box ∷ values.Ref other ∷ []) held =
      boxes_equal library.boolean box other (first it box (values.Ref other ∷ []) held) (second it (values.Ref box) other [] held)
  answer_same natives.BooleanHashCode (values.Ref box ∷ []) held = on_box box held _
  answer_same natives.BooleanCompareTo (values.Ref box ∷ values.Ref other ∷ []) held =
      boxes_compared _ box other (first it box (values.Ref other ∷ []) held) (second it (values.Ref box) other [] held)
  answer_same natives.MathAbsInt (values.Int a ∷ []) held = gives_same it _
  answer_same natives.MathAbsLong (values.Long a ∷ []) held = gives_same it _
  answer_same natives.MathMaxInt (values.Int a ∷ values.Int b ∷ []) held = gives_same it _
  answer_same natives.MathMaxLong (values.Long a ∷ values.Long b ∷ []) held = gives_same it _
  answer_same natives.MathMinInt (values.Int a ∷ values.Int b ∷ []) held = gives_same it _
  answer_same natives.MathMinLong (values.Long a ∷ values.Long b ∷ []) held = gives_same it _
  answer_same natives.MathFloorDivInt (values.Int a ∷ values.Int b ∷ []) held = divides_same (int_eq b (pos 0)) _
  answer_same natives.MathFloorDivLong (values.Long a ∷ values.Long b ∷ []) held = divides_same (int_eq b (pos 0)) _
  answer_same natives.MathFloorModInt (values.Int a ∷ values.Int b ∷ []) held = divides_same (int_eq b (pos 0)) _
  answer_same natives.MathFloorModLong (values.Long a ∷ values.Long b ∷ []) held = divides_same (int_eq b (pos 0)) _
  answer_same native arguments held = refl
