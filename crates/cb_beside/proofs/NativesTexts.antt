-- Natives that give a new String.
use Rattle.std.proofs.Common.{refl, ℕ, ℤ, pos, negsuc, List, [], ◌∷◌, ◌++◌, codes, length, map, zero, suc, nat_le, ◌&&◌}
use Rattle.cb_library.specs.declared.native.Native.{Native}
use Rattle.cb_library.specs.declared.native.Native.TheVariants as natives
use Rattle.cb_machine.specs.Performing.{gives_text, stops, units_of}
use Rattle.cb_machine.specs.Sites.{string_index}
use Rattle.cb_machine.specs.Texts.{class_name, digits, gives_range, hex_digits, object_text, range_of, replaced, text_native, truth, unit_of, with_message}
use Rattle.cb_machine.specs.Values.{natural}
use Rattle.cb_plain.specs.declared.value.Value.{Value}
use Rattle.cb_plain.specs.declared.value.Value.TheVariants as values
use Rattle.cb_plain.specs.State.{Object}
use Rattle.cb_beside.proofs.NativesBasics.{Alike, Apart, branch_same, built_then, number_same, object_same, text_then, texts_same, there}

module _ (it : Apart) where
  range_same : (units : List ℕ) (from to : ℤ) → Alike it (gives_range (there it) units from to) (gives_range it.own units from to)
  range_same units (pos from) (pos to) =
      branch_same it (nat_le from to && nat_le to (length units)) _ _ (stops (there it) string_index) (stops it.own string_index) (texts_same it (range_of units from to)) refl
  range_same units (pos from) (negsuc to) = refl
  range_same units (negsuc from) to = refl

  message_same : (throwable : Object) (message : ℕ) → Alike it (with_message (there it) throwable message) (with_message it.own throwable message)
  message_same throwable zero = texts_same it (class_name it.own.machine.program throwable.kind)
  message_same throwable (suc place) =
      text_then it (suc place) _ _ (λ message. texts_same it (class_name it.own.machine.program throwable.kind ++ codes ": " ++ message))

  -- each of them
  pub text_same : (native : Native) (arguments : List Value) → Alike it (text_native (there it) native arguments) (text_native it.own native arguments)
  text_same natives.ObjectSay (values.Ref object ∷ values.Int hash ∷ []) = object_same it object _ _ (λ own. texts_same it (object_text it.own own hash))
  text_same natives.StringConcat (values.Ref string ∷ values.Ref other ∷ []) =
      text_then it string _ _ (λ units. text_then it other _ _ (λ others. texts_same it (units ++ others)))
  text_same natives.StringSubstringFrom (values.Ref string ∷ values.Int from ∷ []) = text_then it string _ _ (λ units. range_same units from (pos (length units)))
  text_same natives.StringSubstring (values.Ref string ∷ values.Int from ∷ values.Int to ∷ []) = text_then it string _ _ (λ units. range_same units from to)
  text_same natives.StringReplace (values.Ref string ∷ values.Int old ∷ values.Int new ∷ []) =
      text_then it string _ _ (λ units. texts_same it (map (replaced (unit_of old) (unit_of new)) units))
  text_same natives.StringValueOfInt (values.Int number ∷ []) = texts_same it (digits number)
  text_same natives.StringValueOfLong (values.Long number ∷ []) = texts_same it (digits number)
  text_same natives.StringValueOfChar (values.Int unit ∷ []) = texts_same it (unit_of unit ∷ [])
  text_same natives.StringValueOfBoolean (values.Int is ∷ []) = texts_same it (truth is)
  text_same natives.StringValueOfChars (values.Ref array ∷ []) = object_same it array _ _ (λ own. texts_same it (units_of own))
  text_same natives.StringBuilderToString (values.Ref builder ∷ []) =
      built_then it builder (λ own units. gives_text (there it) units) (λ own units. gives_text it.own units) (λ own units. texts_same it units)
  text_same natives.ClassGetName (values.Ref class ∷ []) = number_same it class _ _ (λ kind. texts_same it (class_name it.own.machine.program (natural kind)))
  text_same natives.IntegerTextOf (values.Int number ∷ []) = texts_same it (digits number)
  text_same natives.IntegerToString (values.Ref box ∷ []) = number_same it box _ _ (λ number. texts_same it (digits number))
  text_same natives.IntegerToHexString (values.Int number ∷ []) = texts_same it (hex_digits number)
  text_same natives.LongTextOf (values.Long number ∷ []) = texts_same it (digits number)
  text_same natives.LongToString (values.Ref box ∷ []) = number_same it box _ _ (λ number. texts_same it (digits number))
  text_same natives.CharacterTextOf (values.Int unit ∷ []) = texts_same it (unit_of unit ∷ [])
  text_same natives.CharacterToString (values.Ref box ∷ []) = number_same it box _ _ (λ unit. texts_same it (unit_of unit ∷ []))
  text_same natives.BooleanTextOf (values.Int is ∷ []) = texts_same it (truth is)
  text_same natives.BooleanToString (values.Ref box ∷ []) = number_same it box _ _ (λ is. texts_same it (truth is))
  text_same natives.ThrowableSay (values.Ref throwable ∷ values.Ref message ∷ []) = object_same it throwable _ _ (λ own. message_same own message)
  text_same native arguments = refl
