-- References pass in what natives give that give a new String.
use Rattle.std.proofs.Common.{ℕ, ℤ, pos, negsuc, ◌&&◌, List, [], ◌∷◌, ◌++◌, map, length, codes, zero, suc, nat_le}
use Rattle.cb_library.specs.declared.native.Native.{Native}
use Rattle.cb_library.specs.declared.native.Native.TheVariants as natives
use Rattle.cb_machine.specs.Performing.{gives_text, stops, units_of}
use Rattle.cb_machine.specs.Sites.{string_index}
use Rattle.cb_machine.specs.Texts.{class_name, digits, hex_digits, object_text, range_of, text_native, truth, unit_of}
use Rattle.cb_machine.specs.Values.{natural}
use Rattle.cb_plain.specs.declared.value.Value.{Value}
use Rattle.cb_plain.specs.declared.value.Value.TheVariants as values
use Rattle.cb_plain.specs.State.{Object}
use Rattle.cb_act.proofs.NativesTexts.{gives_range, replaced, with_message}
use Rattle.cb_act.proofs.NativesWithinBasics.{Given, Passing, branch_passes, built_passes, call_in, number_passes, on_passes, stops_passes, text_passes, texts_pass}

module _ (it : Passing) where
  range_passes : (units : List ℕ) (from to : ℤ) → Given it (gives_range (call_in it) units from to)
  range_passes units (pos from) (pos to) =
      branch_passes it (nat_le from to && nat_le to (length units)) (gives_text (call_in it) (range_of units from to)) (stops (call_in it) string_index)
      (texts_pass it (range_of units from to)) (stops_passes it string_index)
  range_passes units (pos from) (negsuc to) = stops_passes it string_index
  range_passes units (negsuc from) to = stops_passes it string_index

  message_passes : (throwable : Object) (message : ℕ) → Given it (with_message (call_in it) throwable message)
  message_passes throwable zero = texts_pass it (class_name it.machine.program throwable.kind)
  message_passes throwable (suc place) =
      text_passes it (suc place) _ (λ message. texts_pass it (class_name it.machine.program throwable.kind ++ codes ": " ++ message))

  -- each of them
  pub text_within : (native : Native) (arguments : List Value) → Given it (text_native (call_in it) native arguments)
  text_within natives.ObjectSay (values.Ref object ∷ values.Int hash ∷ []) = on_passes it object _ (λ own there. texts_pass it (object_text (call_in it) own hash))
  text_within natives.StringConcat (values.Ref string ∷ values.Ref other ∷ []) =
      text_passes it string _ (λ units. text_passes it other _ (λ others. texts_pass it (units ++ others)))
  text_within natives.StringSubstringFrom (values.Ref string ∷ values.Int from ∷ []) = text_passes it string _ (λ units. range_passes units from (pos (length units)))
  text_within natives.StringSubstring (values.Ref string ∷ values.Int from ∷ values.Int to ∷ []) = text_passes it string _ (λ units. range_passes units from to)
  text_within natives.StringReplace (values.Ref string ∷ values.Int old ∷ values.Int new ∷ []) =
      text_passes it string _ (λ units. texts_pass it (map (replaced (unit_of old) (unit_of new)) units))
  text_within natives.StringValueOfInt (values.Int number ∷ []) = texts_pass it (digits number)
  text_within natives.StringValueOfLong (values.Long number ∷ []) = texts_pass it (digits number)
  text_within natives.StringValueOfChar (values.Int unit ∷ []) = texts_pass it (unit_of unit ∷ [])
  text_within natives.StringValueOfBoolean (values.Int is ∷ []) = texts_pass it (truth is)
  text_within natives.StringValueOfChars (values.Ref array ∷ []) = on_passes it array _ (λ own there. texts_pass it (units_of own))
  text_within natives.StringBuilderToString (values.Ref builder ∷ []) =
      built_passes it builder (λ own units. gives_text (call_in it) units) (λ own there units. texts_pass it units)
  text_within natives.ClassGetName (values.Ref class ∷ []) = number_passes it class _ (λ kind. texts_pass it (class_name it.machine.program (natural kind)))
  text_within natives.IntegerTextOf (values.Int number ∷ []) = texts_pass it (digits number)
  text_within natives.IntegerToString (values.Ref box ∷ []) = number_passes it box _ (λ number. texts_pass it (digits number))
  text_within natives.IntegerToHexString (values.Int number ∷ []) = texts_pass it (hex_digits number)
  text_within natives.LongTextOf (values.Long number ∷ []) = texts_pass it (digits number)
  text_within natives.LongToString (values.Ref box ∷ []) = number_passes it box _ (λ number. texts_pass it (digits number))
  text_within natives.CharacterTextOf (values.Int unit ∷ []) = texts_pass it (unit_of unit ∷ [])
  text_within natives.CharacterToString (values.Ref box ∷ []) = number_passes it box _ (λ unit. texts_pass it (unit_of unit ∷ []))
  text_within natives.BooleanTextOf (values.Int is ∷ []) = texts_pass it (truth is)
  text_within natives.BooleanToString (values.Ref box ∷ []) = number_passes it box _ (λ is. texts_pass it (truth is))
  text_within natives.ThrowableSay (values.Ref throwable ∷ values.Ref message ∷ []) = on_passes it throwable _ (λ own there. message_passes own message)
  text_within native arguments = tt
