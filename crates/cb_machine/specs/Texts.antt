-- Natives that give a new String (Java SE 8 API, java.lang).
use Rattle.std.specs.Prelude.{ℤ, pos, ℕ, ◌-◌, false, List, [], ◌∷◌, ◌++◌, map, take, drop, length, codes, Option, None, option_and_then, slice_get, nat_le, zero, suc, ◌==◌, ◌&&◌, if◌then◌else◌}
use Rattle.std.specs.Fmt.{radix_digits, signed_decimal}
use Rattle.cb_arith.specs.Bits.{low_bits}
use Rattle.cb_library.specs.declared.native.Native.{Native}
use Rattle.cb_library.specs.declared.native.Native.TheVariants as natives
use Rattle.cb_link.specs.Numbers.{or_none}
use Rattle.cb_link.specs.Program.{Linked}
use Rattle.cb_names.specs.Signs.{slash}
use Rattle.cb_plain.specs.declared.value.Value.{Value}
use Rattle.cb_plain.specs.declared.value.Value.TheVariants.{Int, Long, Ref}
use Rattle.cb_plain.specs.State.{Object}
use Rattle.cb_machine.specs.Values.{natural}
use Rattle.cb_machine.specs.Performing.{Call, Performed, built_text, gives_text, on_number, on_object, on_text, stops, units_of}
use Rattle.cb_machine.specs.Sites.{string_index}

-- the words for numbers, units and truth. A boolean counts by its lowest bit, a char by its low 16
abbrev pub digits : ℤ → List ℕ
digits number = signed_decimal number

abbrev pub truth : ℤ → List ℕ
truth number = if low_bits 1 number == 1 then codes "true" else codes "false"

abbrev pub unit_of : ℤ → ℕ
unit_of number = low_bits 16 number

abbrev pub hex_digits : ℤ → List ℕ
hex_digits number = radix_digits 16 false (low_bits 32 number)

-- the name of a class as Class.getName has it
abbrev pub dotted : ℕ → ℕ
dotted unit = if unit == slash then 46 else unit

abbrev pub class_name : Linked → ℕ → List ℕ
class_name program kind = map dotted (or_none (slice_get program.kinds kind))

-- a range of a text: from one place to another
abbrev pub range_of : List ℕ → ℕ → ℕ → List ℕ
range_of units from to = take (to - from) (drop from units)

abbrev pub gives_range : Call → List ℕ → ℤ → ℤ → Option Performed
gives_range call units (pos from) (pos to) =
    if nat_le from to && nat_le to (length units) then gives_text call (range_of units from to) else stops call string_index
gives_range call units from to = stops call string_index

abbrev pub replaced : ℕ → ℕ → ℕ → ℕ
replaced old new unit = if unit == old then new else unit

-- the text of an object is its class with its hash; that of a throwable is its class with its message
abbrev pub object_text : Call → Object → ℤ → List ℕ
object_text call object hash = class_name call.machine.program object.kind ++ codes "@" ++ hex_digits hash

abbrev pub with_message : Call → Object → ℕ → Option Performed
with_message call throwable zero = gives_text call (class_name call.machine.program throwable.kind)
with_message call throwable (suc place) =
    on_text call (suc place) (λ message. gives_text call (class_name call.machine.program throwable.kind ++ codes ": " ++ message))

abbrev pub text_native : Call → Native → List Value → Option Performed
text_native call natives.ObjectSay (Ref object ∷ Int hash ∷ []) = on_object call object (λ object. gives_text call (object_text call object hash))
text_native call natives.StringConcat (Ref string ∷ Ref other ∷ []) = on_text call string (λ units. on_text call other (λ others. gives_text call (units ++ others)))
text_native call natives.StringSubstringFrom (Ref string ∷ Int from ∷ []) = on_text call string (λ units. gives_range call units from (pos (length units)))
text_native call natives.StringSubstring (Ref string ∷ Int from ∷ Int to ∷ []) = on_text call string (λ units. gives_range call units from to)
text_native call natives.StringReplace (Ref string ∷ Int old ∷ Int new ∷ []) = on_text call string (λ units. gives_text call (map (replaced (unit_of old) (unit_of new)) units))
text_native call natives.StringValueOfInt (Int number ∷ []) = gives_text call (digits number)
text_native call natives.StringValueOfLong (Long number ∷ []) = gives_text call (digits number)
text_native call natives.StringValueOfChar (Int unit ∷ []) = gives_text call (unit_of unit ∷ [])
text_native call natives.StringValueOfBoolean (Int is ∷ []) = gives_text call (truth is)
text_native call natives.StringValueOfChars (Ref array ∷ []) = on_object call array (λ array. gives_text call (units_of array))
text_native call natives.StringBuilderToString (Ref builder ∷ []) = on_object call builder (λ builder. option_and_then (gives_text call) (built_text call.state builder))
text_native call natives.ClassGetName (Ref class ∷ []) = on_number call class (λ kind. gives_text call (class_name call.machine.program (natural kind)))
text_native call natives.IntegerTextOf (Int number ∷ []) = gives_text call (digits number)
text_native call natives.IntegerToString (Ref box ∷ []) = on_number call box (λ number. gives_text call (digits number))
text_native call natives.IntegerToHexString (Int number ∷ []) = gives_text call (hex_digits number)
text_native call natives.LongTextOf (Long number ∷ []) = gives_text call (digits number)
text_native call natives.LongToString (Ref box ∷ []) = on_number call box (λ number. gives_text call (digits number))
text_native call natives.CharacterTextOf (Int unit ∷ []) = gives_text call (unit_of unit ∷ [])
text_native call natives.CharacterToString (Ref box ∷ []) = on_number call box (λ unit. gives_text call (unit_of unit ∷ []))
text_native call natives.BooleanTextOf (Int is ∷ []) = gives_text call (truth is)
text_native call natives.BooleanToString (Ref box ∷ []) = on_number call box (λ is. gives_text call (truth is))
text_native call natives.ThrowableSay (Ref throwable ∷ Ref message ∷ []) = on_object call throwable (λ throwable. with_message call throwable message)
text_native call other arguments = None
