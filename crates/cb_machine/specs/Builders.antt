-- Natives that set the fields of their own object: constructors of String and of the boxes, and those of StringBuilder that change it
-- (Java SE 8 API, java.lang).
use Rattle.std.specs.Prelude.{ℤ, pos, ℕ, ◌+◌, ◌-◌, ◌*◌, List, [], ◌∷◌, ◌++◌, take, drop, length, min, max, replicate, codes, Option, Some, None, option_and_then, option_map, nat_le, nat_lt, zero, suc, if◌then◌else◌}
use Rattle.cb_arith.specs.Bits.{low_bits}
use Rattle.cb_library.specs.declared.native.Native.{Native}
use Rattle.cb_library.specs.declared.native.Native.TheVariants as natives
use Rattle.cb_plain.specs.declared.value.Value.{Value}
use Rattle.cb_plain.specs.declared.value.Value.TheVariants.{Int, Long, Ref}
use Rattle.cb_plain.specs.State.{Number, Object, Reference, State}
use Rattle.cb_plain.specs.Updates.{object_at, with_contents_at}
use Rattle.cb_machine.specs.Machine.{kind_of_site}
use Rattle.cb_machine.specs.Performing.{Call, Performed, Gives, built_text, count_slot, if_short, most_elements, on_object, on_text, reference_at, stops, units_of, value_slot, with_word}
use Rattle.cb_machine.specs.Plans.{Plan, leaving, with_left, with_one}
use Rattle.cb_machine.specs.Sites.{builder_characters, made_characters, negative_size, string_index}
use Rattle.cb_machine.specs.Strings.{unit_contents}
use Rattle.cb_machine.specs.Texts.{digits, range_of, truth, unit_of}

-- nothing is given back
abbrev pub done : Plan → Option Performed
done plan = Some (Gives plan [])

abbrev pub sets_number : Call → ℕ → ℤ → Object → Option Performed
sets_number call serial number object = done (leaving (with_word call.state serial object value_slot (Number number)))

-- an object gets an array of these units with so much room, which is placed
abbrev pub with_array : Call → ℕ → ℕ → Object → List ℕ → ℕ → Plan
with_array call site serial object units room =
    let plan = leaving call.state in
    with_left (with_one plan site (kind_of_site call.machine.program site) (unit_contents (units ++ replicate (room - length units) 0)))
    (with_word call.state serial object value_slot (Reference plan.next))

abbrev pub sets_text : Call → ℕ → List ℕ → Object → Option Performed
sets_text call serial units object = done (with_array call made_characters serial object units (length units))

abbrev pub sets_range : Call → ℕ → Object → List ℕ → ℤ → ℤ → Option Performed
sets_range call serial object units (pos from) (pos count) =
    if nat_le (from + count) (length units) then sets_text call serial (range_of units from (from + count)) object else stops call string_index
sets_range call serial object units from count = stops call string_index

-- a builder gets an array with room for so many units, and counts those that it has
abbrev pub with_count : Call → ℕ → Plan → ℕ → Plan
with_count call serial plan count =
    counted (object_at plan.left serial) where
      counted : Option Object → Plan
      counted None = plan
      counted (Some object) = with_left plan (with_word plan.left serial object count_slot (Number (pos count)))

abbrev pub builds : Call → ℕ → List ℕ → ℕ → Object → Option Performed
builds call serial units room object =
    if_short call room (done (with_count call serial (with_array call builder_characters serial object units room) (length units)))

abbrev pub builds_sized : Call → ℕ → ℤ → Object → Option Performed
builds_sized call serial (pos room) object = builds call serial [] room object
builds_sized call serial room object = stops call negative_size

-- it holds other units from now on: in its array where that has room for them, or else in a new one, of twice the size and two more or
-- of just their number, whichever is more, as far as arrays go. Units behind those that count are left as they were, or 0
abbrev pub grown : ℕ → ℕ → ℕ
grown room count = min most_elements (max (2 * room + 2) count)

abbrev pub in_place : State → ℕ → Object → List ℕ → State
in_place state serial array units = with_contents_at state serial (unit_contents units ++ drop (length units) array.contents)

abbrev pub in_own_array : Call → ℕ → ℕ → Object → List ℕ → Plan
in_own_array call serial place array units = with_count call serial (leaving (in_place call.state place array units)) (length units)

abbrev pub in_new_array : Call → ℕ → Object → ℕ → List ℕ → Plan
in_new_array call serial builder room units = with_count call serial (with_array call builder_characters serial builder units (grown room (length units))) (length units)

abbrev pub holding : Call → ℕ → Object → ℕ → Object → List ℕ → Plan
holding call serial builder place array units =
    if nat_le (length units) (length array.contents) then in_own_array call serial place array units
    else in_new_array call serial builder (length array.contents) units

abbrev pub holds_in : Call → ℕ → Object → List ℕ → List Value → ℕ → Option Performed
holds_in call serial builder units answer zero = Some (Gives (in_new_array call serial builder 0 units) answer)
holds_in call serial builder units answer (suc place) =
    option_map (λ array. Gives (holding call serial builder (suc place) array units) answer) (object_at call.state (suc place))

abbrev pub holds : Call → ℕ → Object → List Value → List ℕ → Option Performed
holds call serial builder answer units = if_short call (length units) (option_and_then (holds_in call serial builder units answer) (reference_at builder value_slot))

-- on what a builder has
abbrev pub on_built : Call → ℕ → (Object → List ℕ → Option Performed) → Option Performed
on_built call serial go = on_object call serial (λ builder. option_and_then (go builder) (built_text call.state builder))

abbrev pub appends : Call → ℕ → List ℕ → Option Performed
appends call serial units = on_built call serial (λ builder built. holds call serial builder (Ref serial ∷ []) (built ++ units))

abbrev pub appends_string : Call → ℕ → ℕ → Option Performed
appends_string call serial zero = appends call serial (codes "null")
appends_string call serial (suc place) = on_text call (suc place) (appends call serial)

-- with another unit at a place, and without the one there
abbrev pub set_at : Call → ℕ → ℕ → ℤ → Object → List ℕ → Option Performed
set_at call serial unit (pos place) builder built =
    if nat_lt place (length built) then holds call serial builder [] (take place built ++ unit ∷ drop (place + 1) built) else stops call string_index
set_at call serial unit place builder built = stops call string_index

abbrev pub deleted_at : Call → ℕ → ℤ → Object → List ℕ → Option Performed
deleted_at call serial (pos place) builder built =
    if nat_lt place (length built) then holds call serial builder (Ref serial ∷ []) (take place built ++ drop (place + 1) built) else stops call string_index
deleted_at call serial place builder built = stops call string_index

-- cut, or with zeros behind
abbrev pub cut_at : Call → ℕ → ℤ → Object → List ℕ → Option Performed
cut_at call serial (pos count) builder built =
    if_short call count (holds call serial builder [] (take count built ++ replicate (count - length built) 0))
cut_at call serial count builder built = stops call string_index

abbrev pub own_native : Call → Native → List Value → Option Performed
own_native call natives.StringNew (Ref string ∷ []) = on_object call string (sets_text call string [])
own_native call natives.StringNewChars (Ref string ∷ Ref array ∷ []) =
    on_object call array (λ array. on_object call string (sets_text call string (units_of array)))
own_native call natives.StringNewRange (Ref string ∷ Ref array ∷ Int from ∷ Int count ∷ []) =
    on_object call array (λ array. on_object call string (λ object. sets_range call string object (units_of array) from count))
own_native call natives.StringBuilderNew (Ref builder ∷ []) = on_object call builder (builds call builder [] 16)
own_native call natives.StringBuilderNewCapacity (Ref builder ∷ Int room ∷ []) = on_object call builder (builds_sized call builder room)
own_native call natives.StringBuilderNewString (Ref builder ∷ Ref string ∷ []) =
    on_text call string (λ units. on_object call builder (builds call builder units (min most_elements (length units + 16))))
own_native call natives.StringBuilderAppendString (Ref builder ∷ Ref string ∷ []) = appends_string call builder string
own_native call natives.StringBuilderAppendInt (Ref builder ∷ Int number ∷ []) = appends call builder (digits number)
own_native call natives.StringBuilderAppendLong (Ref builder ∷ Long number ∷ []) = appends call builder (digits number)
own_native call natives.StringBuilderAppendChar (Ref builder ∷ Int unit ∷ []) = appends call builder (unit_of unit ∷ [])
own_native call natives.StringBuilderAppendBoolean (Ref builder ∷ Int is ∷ []) = appends call builder (truth is)
own_native call natives.StringBuilderAppendChars (Ref builder ∷ Ref array ∷ []) = on_object call array (λ array. appends call builder (units_of array))
own_native call natives.StringBuilderSetCharAt (Ref builder ∷ Int place ∷ Int unit ∷ []) = on_built call builder (set_at call builder (unit_of unit) place)
own_native call natives.StringBuilderDeleteCharAt (Ref builder ∷ Int place ∷ []) = on_built call builder (deleted_at call builder place)
own_native call natives.StringBuilderSetLength (Ref builder ∷ Int count ∷ []) = on_built call builder (cut_at call builder count)
own_native call natives.IntegerNew (Ref box ∷ Int number ∷ []) = on_object call box (sets_number call box number)
own_native call natives.LongNew (Ref box ∷ Long number ∷ []) = on_object call box (sets_number call box number)
own_native call natives.CharacterNew (Ref box ∷ Int unit ∷ []) = on_object call box (sets_number call box (pos (unit_of unit)))
own_native call natives.BooleanNew (Ref box ∷ Int is ∷ []) = on_object call box (sets_number call box (pos (low_bits 1 is)))
own_native call other arguments = None
