-- Natives that give a number, an object that was there, or nothing (Java SE 8 API, java.lang).
use Rattle.std.specs.Prelude.{ℤ, neg_ℤ, pos, negsuc, ◌+ℤ◌, ◌-ℤ◌, ◌*ℤ◌, ℕ, ◌+◌, ◌-◌, ◌*◌, Bool, false, List, [], ◌∷◌, take, drop, length, Option, Some, None, option_and_then, option_map, slice_get, int_lt, nat_le, nat_lt, unsigned_abs, zero, suc, ◌==◌, ◌&&◌, if◌then◌else◌}
use Rattle.std.specs.Int.{Width, w32, w64, int_div_euclid, int_wrap}
use Rattle.std.specs.List.{fold, position}
use Rattle.std.specs.Ordering.{int_eq}
use Rattle.cb_arith.specs.Bits.{bits_xor}
use Rattle.cb_arith.specs.Shifts.{long_shift}
use Rattle.cb_arith.specs.declared.shift.ShiftOp.TheVariants.{Ushr}
use Rattle.cb_arith.specs.Order.{compare}
use Rattle.cb_kinds.specs.Texts.{same_text}
use Rattle.cb_library.specs.declared.native.Native.{Native}
use Rattle.cb_library.specs.declared.native.Native.TheVariants as natives
use Rattle.cb_plain.specs.declared.value.Value.{Value}
use Rattle.cb_plain.specs.declared.value.Value.TheVariants.{Int, Long, Ref}
use Rattle.cb_plain.specs.State.{Object, State}
use Rattle.cb_plain.specs.Updates.{object_in}
use Rattle.cb_machine.specs.Computing.{throws_by_zero}
use Rattle.cb_machine.specs.Library as library
use Rattle.cb_machine.specs.Performing.{Call, Performed, Stops, built_text, gives, gives_int, identity_hash, number_at, on_number, on_object, on_text, stops, text_of, value_slot}
use Rattle.cb_machine.specs.Sites.{number_format, string_index}
use Rattle.cb_machine.specs.Testing.{int_of}

abbrev pub gives_bool : Call → Bool → Option Performed
gives_bool call is = gives call (int_of is ∷ [])

abbrev pub gives_long : Call → ℤ → Option Performed
gives_long call number = gives call (Long number ∷ [])

-- the identity hash of an object, which null has too
abbrev hash_of : Call → ℕ → Option Performed
hash_of call zero = gives_int call (pos 0)
hash_of call (suc place) = gives_int call (identity_hash (suc place))

-- the unit at a place of a text
abbrev pub gives_found : Call → Option ℕ → Option Performed
gives_found call None = stops call string_index
gives_found call (Some unit) = gives_int call (pos unit)

abbrev pub unit_at : Call → ℤ → List ℕ → Option Performed
unit_at call (pos place) units = gives_found call (slice_get units place)
unit_at call place units = stops call string_index

-- a text's hash: the sum of its units times the powers of 31, the last unit times 1, as an int
abbrev pub text_hash : List ℕ → ℤ
text_hash units = int_wrap w32 (fold (λ sum unit. sum *ℤ pos 31 +ℤ pos unit) (pos 0) units)

-- texts compare by the first units that differ, or else by their lengths
abbrev pub compared : List ℕ → List ℕ → ℤ
compared [] others = pos 0 -ℤ pos (length others)
compared (unit ∷ units) [] = pos (length (unit ∷ units))
compared (unit ∷ units) (other ∷ others) = if unit == other then compared units others else pos unit -ℤ pos other

-- where a text begins in another one, if it does
abbrev pub begins : List ℕ → List ℕ → Bool
begins units front = same_text (take (length front) units) front

abbrev pub found_from : ℕ → List ℕ → List ℕ → ℤ
found_from place [] part = if length part == 0 then pos place else negsuc 0
found_from place (unit ∷ units) part = if begins (unit ∷ units) part then pos place else found_from (place + 1) units part

abbrev pub ends_with : List ℕ → List ℕ → Bool
ends_with units end = nat_le (length end) (length units) && same_text (drop (length units - length end) units) end

abbrev pub place_or_none : Option ℕ → ℤ
place_or_none None = negsuc 0
place_or_none (Some place) = pos place

abbrev pub unit_index : List ℕ → ℤ → ℤ
unit_index units (pos unit) = place_or_none (position (λ other. other == unit) units)
unit_index units other = negsuc 0

-- An object of a class of the library that has no subclasses is equal to another of it with the same contents: to nothing else, and not to
-- null.
abbrev pub of_kind : List (Option Object) → ℕ → ℕ → Option Object
of_kind objects kind serial = option_and_then (λ object. if object.kind == kind then Some object else None) (object_in objects serial)

abbrev pub equal_text : List ℕ → Option (List ℕ) → Bool
equal_text units None = false
equal_text units (Some others) = same_text units others

abbrev pub equal_texts : State → List ℕ → Option Object → Bool
equal_texts state units None = false
equal_texts state units (Some other) = equal_text units (text_of state other)

abbrev pub equal_number : ℤ → Option ℤ → Bool
equal_number number None = false
equal_number number (Some own) = int_eq number own

abbrev pub equal_numbers : ℤ → Option Object → Bool
equal_numbers number None = false
equal_numbers number (Some other) = equal_number number (number_at other value_slot)

-- boxes
abbrev equals_box : Call → ℕ → ℕ → ℕ → Option Performed
equals_box call kind serial other = on_number call serial (λ number. gives_bool call (equal_numbers number (of_kind call.state.objects kind other)))

abbrev compares_boxes : Call → (ℤ → ℤ → ℤ) → ℕ → ℕ → Option Performed
compares_boxes call order serial other = on_number call other (λ second. on_number call serial (λ first. gives_int call (order first second)))

abbrev differing : ℤ → ℤ → ℤ
differing one other = one -ℤ other

abbrev long_hash : ℤ → ℤ
long_hash number = int_wrap w32 (bits_xor 64 number (long_shift Ushr number (pos 32)))

-- numbers in texts: a sign at most, then digits, within the range of so many bits
abbrev pub digit_of : ℕ → Option ℕ
digit_of unit = if nat_le 48 unit && nat_lt unit 58 then Some (unit - 48) else None

abbrev pub read_on : ℕ → Option ℕ → Option ℕ
read_on sum None = None
read_on sum (Some digit) = Some (sum * 10 + digit)

abbrev pub read_digits : ℕ → List ℕ → Option ℕ
read_digits sum [] = Some sum
read_digits sum (unit ∷ units) = option_and_then (λ sum. read_digits sum units) (read_on sum (digit_of unit))

abbrev pub read_some : List ℕ → Option ℕ
read_some [] = None
read_some (unit ∷ units) = read_digits 0 (unit ∷ units)

abbrev pub number_in : List ℕ → Option ℤ
number_in [] = None
number_in (unit ∷ units) =
    if unit == 45 then option_map (λ number. pos 0 -ℤ pos number) (read_some units)
    else if unit == 43 then option_map pos (read_some units)
    else option_map pos (read_some (unit ∷ units))

abbrev pub in_range : Width → ℤ → Option ℤ
in_range width number = if int_eq (int_wrap width number) number then Some number else None

abbrev pub gives_parsed : Call → (ℤ → Option Performed) → Option ℤ → Option Performed
gives_parsed call give None = stops call number_format
gives_parsed call give (Some number) = give number

abbrev pub parses : Call → Width → (ℤ → Option Performed) → ℕ → Option Performed
parses call width give zero = stops call number_format
parses call width give (suc place) =
    on_text call (suc place) (λ units. gives_parsed call give (option_and_then (in_range width) (number_in units)))

-- arithmetic
abbrev larger : ℤ → ℤ → ℤ
larger one other = if int_lt one other then other else one

abbrev smaller : ℤ → ℤ → ℤ
smaller one other = if int_lt other one then other else one

abbrev absolute : ℤ → ℤ
absolute number = pos (unsigned_abs number)

-- the greatest whole number that isn't above the quotient, and what is left of the number by it (Math.floorDiv and floorMod)
abbrev pub floor_quotient : ℤ → ℤ → ℤ
floor_quotient a b = if int_lt b (pos 0) then int_div_euclid (neg_ℤ a) (neg_ℤ b) else int_div_euclid a b

abbrev pub floor_remainder : ℤ → ℤ → ℤ
floor_remainder a b = a -ℤ floor_quotient a b *ℤ b

abbrev by_zero : Call → Option Performed
by_zero call = Some (Stops (throws_by_zero call.machine call.state))

abbrev divides_int : Call → (ℤ → ℤ → ℤ) → ℤ → ℤ → Option Performed
divides_int call by a b = if int_eq b (pos 0) then by_zero call else gives_int call (int_wrap w32 (by a b))

abbrev divides_long : Call → (ℤ → ℤ → ℤ) → ℤ → ℤ → Option Performed
divides_long call by a b = if int_eq b (pos 0) then by_zero call else gives_long call (int_wrap w64 (by a b))

abbrev math_native : Call → Native → List Value → Option Performed
math_native call natives.MathAbsInt (Int a ∷ []) = gives_int call (int_wrap w32 (absolute a))
math_native call natives.MathAbsLong (Long a ∷ []) = gives_long call (int_wrap w64 (absolute a))
math_native call natives.MathMaxInt (Int a ∷ Int b ∷ []) = gives_int call (larger a b)
math_native call natives.MathMaxLong (Long a ∷ Long b ∷ []) = gives_long call (larger a b)
math_native call natives.MathMinInt (Int a ∷ Int b ∷ []) = gives_int call (smaller a b)
math_native call natives.MathMinLong (Long a ∷ Long b ∷ []) = gives_long call (smaller a b)
math_native call natives.MathFloorDivInt (Int a ∷ Int b ∷ []) = divides_int call floor_quotient a b
math_native call natives.MathFloorDivLong (Long a ∷ Long b ∷ []) = divides_long call floor_quotient a b
math_native call natives.MathFloorModInt (Int a ∷ Int b ∷ []) = divides_int call floor_remainder a b
math_native call natives.MathFloorModLong (Long a ∷ Long b ∷ []) = divides_long call floor_remainder a b
math_native call other arguments = None

-- of boxes
abbrev boolean_hash : ℤ → ℤ
boolean_hash number = if int_eq number (pos 0) then pos 1237 else pos 1231

abbrev box_answer : Call → Native → List Value → Option Performed
box_answer call natives.IntegerParseInt (Ref string ∷ []) = parses call w32 (gives_int call) string
box_answer call natives.IntegerCompare (Int a ∷ Int b ∷ []) = gives_int call (compare a b)
box_answer call natives.IntegerIntValue (Ref box ∷ []) = on_number call box (gives_int call)
box_answer call natives.IntegerLongValue (Ref box ∷ []) = on_number call box (gives_long call)
box_answer call natives.IntegerEquals (Ref box ∷ Ref other ∷ []) = equals_box call library.integer box other
box_answer call natives.IntegerHashCode (Ref box ∷ []) = on_number call box (gives_int call)
box_answer call natives.IntegerCompareTo (Ref box ∷ Ref other ∷ []) = compares_boxes call compare box other
box_answer call natives.LongParseLong (Ref string ∷ []) = parses call w64 (gives_long call) string
box_answer call natives.LongCompare (Long a ∷ Long b ∷ []) = gives_int call (compare a b)
box_answer call natives.LongIntValue (Ref box ∷ []) = on_number call box (λ number. gives_int call (int_wrap w32 number))
box_answer call natives.LongLongValue (Ref box ∷ []) = on_number call box (gives_long call)
box_answer call natives.LongEquals (Ref box ∷ Ref other ∷ []) = equals_box call library.long box other
box_answer call natives.LongHashCode (Ref box ∷ []) = on_number call box (λ number. gives_int call (long_hash number))
box_answer call natives.LongCompareTo (Ref box ∷ Ref other ∷ []) = compares_boxes call compare box other
box_answer call natives.CharacterCharValue (Ref box ∷ []) = on_number call box (gives_int call)
box_answer call natives.CharacterEquals (Ref box ∷ Ref other ∷ []) = equals_box call library.character box other
box_answer call natives.CharacterHashCode (Ref box ∷ []) = on_number call box (gives_int call)
box_answer call natives.CharacterCompareTo (Ref box ∷ Ref other ∷ []) = compares_boxes call differing box other
box_answer call natives.BooleanBooleanValue (Ref box ∷ []) = on_number call box (gives_int call)
box_answer call natives.BooleanEquals (Ref box ∷ Ref other ∷ []) = equals_box call library.boolean box other
box_answer call natives.BooleanHashCode (Ref box ∷ []) = on_number call box (λ number. gives_int call (boolean_hash number))
box_answer call natives.BooleanCompareTo (Ref box ∷ Ref other ∷ []) = compares_boxes call differing box other
box_answer call other arguments = math_native call other arguments

-- of texts, of objects, and of constants of enums, which compare by their ordinals
abbrev pub ordinal_slot : ℕ
ordinal_slot = 1

abbrev pub on_ordinal : Call → ℕ → (ℤ → Option Performed) → Option Performed
on_ordinal call serial go = on_object call serial (λ object. option_and_then go (number_at object ordinal_slot))

abbrev text_answer : Call → Native → List Value → Option Performed
text_answer call natives.StringLength (Ref string ∷ []) = on_text call string (λ units. gives_int call (pos (length units)))
text_answer call natives.StringIsEmpty (Ref string ∷ []) = on_text call string (λ units. gives_bool call (length units == 0))
text_answer call natives.StringCharAt (Ref string ∷ Int place ∷ []) = on_text call string (unit_at call place)
text_answer call natives.StringEquals (Ref string ∷ Ref other ∷ []) =
    on_text call string (λ units. gives_bool call (equal_texts call.state units (of_kind call.state.objects library.string other)))
text_answer call natives.StringHashCode (Ref string ∷ []) = on_text call string (λ units. gives_int call (text_hash units))
text_answer call natives.StringCompareTo (Ref string ∷ Ref other ∷ []) = on_text call other (λ others. on_text call string (λ units. gives_int call (compared units others)))
text_answer call natives.StringIndexOfUnit (Ref string ∷ Int unit ∷ []) = on_text call string (λ units. gives_int call (unit_index units unit))
text_answer call natives.StringIndexOfString (Ref string ∷ Ref other ∷ []) = on_text call other (λ part. on_text call string (λ units. gives_int call (found_from 0 units part)))
text_answer call natives.StringStartsWith (Ref string ∷ Ref other ∷ []) = on_text call other (λ front. on_text call string (λ units. gives_bool call (begins units front)))
text_answer call natives.StringEndsWith (Ref string ∷ Ref other ∷ []) = on_text call other (λ end. on_text call string (λ units. gives_bool call (ends_with units end)))
text_answer call natives.StringBuilderLength (Ref builder ∷ []) =
    on_object call builder (λ builder. option_and_then (λ units. gives_int call (pos (length units))) (built_text call.state builder))
text_answer call natives.StringBuilderCharAt (Ref builder ∷ Int place ∷ []) =
    on_object call builder (λ builder. option_and_then (unit_at call place) (built_text call.state builder))
text_answer call other arguments = box_answer call other arguments

abbrev pub answer_native : Call → Native → List Value → Option Performed
answer_native call natives.ObjectHashCode (Ref object ∷ []) = hash_of call object
answer_native call natives.ObjectEquals (Ref object ∷ Ref other ∷ []) = gives_bool call (object == other)
answer_native call natives.SystemIdentityHashCode (Ref object ∷ []) = hash_of call object
answer_native call natives.ClassDesiredAssertionStatus (Ref class ∷ []) = gives_bool call false
answer_native call natives.Flush (Ref stream ∷ []) = gives call []
answer_native call natives.EnumEquals (Ref constant ∷ Ref other ∷ []) = gives_bool call (constant == other)
answer_native call natives.EnumHashCode (Ref constant ∷ []) = hash_of call constant
answer_native call natives.EnumCompareTo (Ref constant ∷ Ref other ∷ []) =
    on_ordinal call other (λ second. on_ordinal call constant (λ first. gives_int call (int_wrap w32 (first -ℤ second))))
answer_native call other arguments = text_answer call other arguments
