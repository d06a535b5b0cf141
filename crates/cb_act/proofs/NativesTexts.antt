-- Natives that give a new String, of a state with changed objects.
use Rattle.std.proofs.Common.{refl, ℕ, ℤ, pos, negsuc, ◌==◌, ◌&&◌, List, [], ◌∷◌, ◌++◌, map, length, codes, Option, zero, suc, if◌then◌else◌, nat_le}
use Rattle.cb_library.specs.declared.native.Native.{Native}
use Rattle.cb_library.specs.declared.native.Native.TheVariants as natives
use Rattle.cb_machine.specs.Performing.{Call, Performed, gives_text, on_text, stops, units_of}
use Rattle.cb_machine.specs.Sites.{string_index}
use Rattle.cb_machine.specs.Texts.{class_name, digits, hex_digits, object_text, range_of, text_native, truth, unit_of}
use Rattle.cb_machine.specs.Values.{natural}
use Rattle.cb_plain.specs.declared.value.Value.{Value}
use Rattle.cb_plain.specs.declared.value.Value.TheVariants as values
use Rattle.cb_plain.specs.State.{Object}
use Rattle.cb_act.specs.Changing.{Passes}
use Rattle.cb_act.proofs.NativesBasics.{Changed, Held, Same, branch_same, built_then, changed_call, first, number_same, object_same, own_call, second, stops_same, text_then, texts_same}

-- a range of a text, a text with another unit, and a throwable with its message
abbrev pub gives_range : Call → List ℕ → ℤ → ℤ → Option Performed
gives_range call units (pos from) (pos to) =
    if nat_le from to && nat_le to (length units) then gives_text call (range_of units from to) else stops call string_index
gives_range call units from to = stops call string_index

abbrev pub replaced : ℕ → ℕ → ℕ → ℕ
replaced old new unit = if unit == old then new else unit

abbrev pub with_message : Call → Object → ℕ → Option Performed
with_message call throwable zero = gives_text call (class_name call.machine.program throwable.kind)
with_message call throwable (suc place) =
    on_text call (suc place) (λ message. gives_text call (class_name call.machine.program throwable.kind ++ codes ": " ++ message))

module _ (it : Changed) where
  range_same : (units : List ℕ) (from to : ℤ) → Same it (gives_range (changed_call it) units from to) (gives_range (own_call it) units from to)
  range_same units (pos from) (pos to) =
      branch_same it (nat_le from to && nat_le to (length units))
      (gives_text (changed_call it) (range_of units from to)) (gives_text (own_call it) (range_of units from to))
      (stops (changed_call it) string_index) (stops (own_call it) string_index)
      (texts_same it (range_of units from to)) (stops_same it string_index)
  range_same units (pos from) (negsuc to) = stops_same it string_index
  range_same units (negsuc from) to = stops_same it string_index

  message_same : (throwable : Object) (message : ℕ) → Passes it.test message
      → Same it (with_message (changed_call it) throwable message) (with_message (own_call it) throwable message)
  message_same throwable zero passes = texts_same it (class_name it.machine.program throwable.kind)
  message_same throwable (suc place) passes =
      text_then it (suc place) passes _ _ (λ message. texts_same it (class_name it.machine.program throwable.kind ++ codes ": " ++ message))

  -- each of them
  pub text_same : (native : Native) (arguments : List Value) → Held it arguments
      → Same it (text_native (changed_call it) native arguments) (text_native (own_call it) native arguments)
  text_same natives.ObjectSay (values.Ref object ∷ values.Int hash ∷ []) held =
      object_same it object (first it object (values.Int hash ∷ []) held) _ _ (λ own there. texts_same it (object_text (own_call it) own hash))
  text_same natives.StringConcat (values.Ref string ∷ values.Ref other ∷ []) held =
      text_then it string (first it string (values.Ref other ∷ []) held) _ _
      (λ units. text_then it other (second it (values.Ref string) other [] held) _ _ (λ others. texts_same it (units ++ others)))
  text_same natives.StringSubstringFrom (values.Ref string ∷ values.Int from ∷ []) held =
      text_then it string (first it string (values.Int from ∷ []) held) _ _ (λ units. range_same units from (pos (length units)))
  text_same natives.StringSubstring (values.Ref string ∷ values.Int from ∷ values.Int to ∷ []) held =
      text_then it string (first it string (values.Int from ∷ values.Int to ∷ []) held) _ _ (λ units. range_same units from to)
  text_same natives.StringReplace (values.Ref string ∷ values.Int old ∷ values.Int new ∷ []) held =
      text_then it string (first it string (values.Int old ∷ values.Int new ∷ []) held) _ _
      (λ units. texts_same it (map (replaced (unit_of old) (unit_of new)) units))
  text_same natives.StringValueOfInt (values.Int number ∷ []) held = texts_same it (digits number)
  text_same natives.StringValueOfLong (values.Long number ∷ []) held = texts_same it (digits number)
  text_same natives.StringValueOfChar (values.Int unit ∷ []) held = texts_same it (unit_of unit ∷ [])
  text_same natives.StringValueOfBoolean (values.Int is ∷ []) held = texts_same it (truth is)
  text_same natives.StringValueOfChars (values.Ref array ∷ []) held =
      object_same it array (first it array [] held) _ _ (λ own there. texts_same it (units_of own))
  text_same natives.StringBuilderToString (values.Ref builder ∷ []) held =
      built_then it builder (first it builder [] held) (λ own units. gives_text (changed_call it) units) (λ own units. gives_text (own_call it) units)
      (λ own there units. texts_same it units)
  text_same natives.ClassGetName (values.Ref class ∷ []) held =
      number_same it class (first it class [] held) _ _ (λ kind. texts_same it (class_name it.machine.program (natural kind)))
  text_same natives.IntegerTextOf (values.Int number ∷ []) held = texts_same it (digits number)
  text_same natives.IntegerToString (values.Ref box ∷ []) held = number_same it box (first it box [] held) _ _ (λ number. texts_same it (digits number))
  text_same natives.IntegerToHexString (values.Int number ∷ []) held = texts_same it (hex_digits number)
  text_same natives.LongTextOf (values.Long number ∷ []) held = texts_same it (digits number)
  text_same natives.LongToString (values.Ref box ∷ []) held = number_same it box (first it box [] held) _ _ (λ number. texts_same it (digits number))
  text_same natives.CharacterTextOf (values.Int unit ∷ []) held = texts_same it (unit_of unit ∷ [])
  text_same natives.CharacterToString (values.Ref box ∷ []) held = number_same it box (first it box [] held) _ _ (λ unit. texts_same it (unit_of unit ∷ []))
  text_same natives.BooleanTextOf (values.Int is ∷ []) held = texts_same it (truth is)
  text_same natives.BooleanToString (values.Ref box ∷ []) held = number_same it box (first it box [] held) _ _ (λ is. texts_same it (truth is))
  text_same natives.ThrowableSay (values.Ref throwable ∷ values.Ref message ∷ []) held =
      object_same it throwable (first it throwable (values.Ref message ∷ []) held) _ _
      (λ own there. message_same own message (second it (values.Ref throwable) message [] held))
  text_same native arguments held = refl
