-- Natives that set the fields of their own object, of a state with changed objects.
use Rattle.std.proofs.Common.{◌≡◌, ◌∙◌, ap, refl, ℕ, ℤ, pos, negsuc, ◌+◌, ◌-◌, List, [], ◌∷◌, ◌++◌, codes, drop, length, min, replicate, take, Option, Some, None, zero, suc, if◌then◌else◌, nat_le, nat_lt}
use Rattle.std.specs.Prelude.{option_and_then, option_map, slice_set}
use Rattle.cb_arith.specs.Bits.{low_bits}
use Rattle.cb_library.specs.declared.native.Native.{Native}
use Rattle.cb_library.specs.declared.native.Native.TheVariants as natives
use Rattle.cb_machine.specs.Builders.{grown, own_native}
use Rattle.cb_machine.specs.Machine.{Machine, kind_of_site}
use Rattle.cb_machine.specs.Performing.{Call, Performed, Gives, built_text, count_slot, if_short, most_elements, on_object, on_text, reference_at, stops, units_of, value_slot, with_word}
use Rattle.cb_machine.specs.Plans.{Plan, leaving, with_left, with_one}
use Rattle.cb_machine.specs.Sites.{builder_characters, made_characters, negative_size, string_index}
use Rattle.cb_machine.specs.Strings.{unit_contents}
use Rattle.cb_machine.specs.Texts.{digits, range_of, truth, unit_of}
use Rattle.cb_plain.specs.declared.value.Value.{Value}
use Rattle.cb_plain.specs.declared.value.Value.TheVariants as values
use Rattle.cb_plain.specs.State.{Content, Number, Object, Reference}
use Rattle.cb_plain.specs.Updates.{object_at, with_contents_at}
use Rattle.cb_act.specs.Changing.{Passes, changed_performed, changed_plan, changed_state}
use Rattle.cb_act.proofs.NativesBasics.{Changed, Held, Same, branch_same, built_then, changed_call, contents_same, either_same, first, inside_of, left_changed, left_same, look_same, named_passes, object_same, own_call, plan_gives, second, short_same, stops_same, text_then, then_same}

-- nothing is given back
abbrev pub done : Plan → Option Performed
done plan = Some (Gives plan [])

-- an object gets an array of these units with so much room
abbrev pub with_room : List ℕ → ℕ → List Content
with_room units room = unit_contents (units ++ replicate (room - length units) 0)

abbrev pub placed_array : Machine → ℕ → List Content → Plan → Plan
placed_array machine site contents plan = with_one plan site (kind_of_site machine.program site) contents

abbrev pub with_array : Call → ℕ → ℕ → Object → List Content → Plan
with_array call site serial object contents =
    with_left (placed_array call.machine site contents (leaving call.state)) (with_word call.state serial object value_slot (Reference (leaving call.state).next))

abbrev pub sets_text : Call → ℕ → List ℕ → Object → Option Performed
sets_text call serial units object = done (with_array call made_characters serial object (with_room units (length units)))

abbrev pub sets_range : Call → ℕ → Object → List ℕ → ℤ → ℤ → Option Performed
sets_range call serial object units (pos from) (pos count) =
    if nat_le (from + count) (length units) then sets_text call serial (range_of units from (from + count)) object else stops call string_index
sets_range call serial object units from count = stops call string_index

-- a builder counts its units
abbrev pub counted_at : ℕ → Plan → ℕ → Option Object → Plan
counted_at serial plan count None = plan
counted_at serial plan count (Some object) = with_left plan (with_word plan.left serial object count_slot (Number (pos count)))

abbrev pub with_count : ℕ → Plan → ℕ → Plan
with_count serial plan count = counted_at serial plan count (object_at plan.left serial)

abbrev pub in_new_array : Call → ℕ → Object → List ℕ → ℕ → Plan
in_new_array call serial object units room = with_count serial (with_array call builder_characters serial object (with_room units room)) (length units)

abbrev pub builds : Call → ℕ → List ℕ → ℕ → Object → Option Performed
builds call serial units room object = if_short call room (done (in_new_array call serial object units room))

abbrev pub builds_sized : Call → ℕ → ℤ → Object → Option Performed
builds_sized call serial (pos room) object = builds call serial [] room object
builds_sized call serial room object = stops call negative_size

-- it holds other units
abbrev pub new_units : Object → List ℕ → List Content
new_units array units = unit_contents units ++ drop (length units) array.contents

abbrev pub in_own_array : Call → ℕ → ℕ → Object → List ℕ → Plan
in_own_array call serial place array units = with_count serial (leaving (with_contents_at call.state place (new_units array units))) (length units)

abbrev pub holding : Call → ℕ → Object → ℕ → Object → List ℕ → Plan
holding call serial builder place array units =
    if nat_le (length units) (length array.contents) then in_own_array call serial place array units
    else in_new_array call serial builder units (grown (length array.contents) (length units))

abbrev pub holds_in : Call → ℕ → Object → List ℕ → List Value → ℕ → Option Performed
holds_in call serial builder units answer zero = Some (Gives (in_new_array call serial builder units (grown 0 (length units))) answer)
holds_in call serial builder units answer (suc place) =
    option_map (λ array. Gives (holding call serial builder (suc place) array units) answer) (object_at call.state (suc place))

abbrev pub holds : Call → ℕ → Object → List Value → List ℕ → Option Performed
holds call serial builder answer units = if_short call (length units) (option_and_then (holds_in call serial builder units answer) (reference_at builder value_slot))

-- what is appended, set, left out or cut
abbrev pub appends : Call → ℕ → List ℕ → Object → List ℕ → Option Performed
appends call serial units builder built = holds call serial builder (values.Ref serial ∷ []) (built ++ units)

abbrev pub set_at : Call → ℕ → ℕ → ℤ → Object → List ℕ → Option Performed
set_at call serial unit (pos place) builder built =
    if nat_lt place (length built) then holds call serial builder [] (take place built ++ unit ∷ drop (place + 1) built) else stops call string_index
set_at call serial unit place builder built = stops call string_index

abbrev pub deleted_at : Call → ℕ → ℤ → Object → List ℕ → Option Performed
deleted_at call serial (pos place) builder built =
    if nat_lt place (length built) then holds call serial builder (values.Ref serial ∷ []) (take place built ++ drop (place + 1) built) else stops call string_index
deleted_at call serial place builder built = stops call string_index

abbrev pub cut_at : Call → ℕ → ℤ → Object → List ℕ → Option Performed
cut_at call serial (pos count) builder built =
    if_short call count (holds call serial builder [] (take count built ++ replicate (count - length built) 0))
cut_at call serial count builder built = stops call string_index

abbrev pub on_built : Call → ℕ → (Object → List ℕ → Option Performed) → Option Performed
on_built call serial go = on_object call serial (λ builder. option_and_then (go builder) (built_text call.state builder))

abbrev pub appends_string : Call → ℕ → ℕ → Option Performed
appends_string call serial zero = on_built call serial (appends call serial (codes "null"))
appends_string call serial (suc place) = on_text call (suc place) (λ units. on_built call serial (appends call serial units))

module _ (it : Changed) where
  -- a number, and an array
  number_set : (serial : ℕ) (number : ℤ) (object : Object)
      → Same it (done (leaving (with_word (changed_state it.change it.state) serial object value_slot (Number number))))
      (done (leaving (with_word it.state serial object value_slot (Number number))))
  number_set serial number object =
      plan_gives it
      (leaving (with_word (changed_state it.change it.state) serial object value_slot (Number number))) (leaving (with_word it.state serial object value_slot (Number number))) []
      (left_changed it it.state it.unseen.count serial (slice_set object.contents value_slot (Number number)))

  with_array_same : (site serial : ℕ) (object : Object) (contents : List Content)
      → with_array (changed_call it) site serial object contents ≡ changed_plan it.change (with_array (own_call it) site serial object contents)
  with_array_same site serial object contents =
      ap (λ (plan : Plan). with_left (placed_array it.machine site contents plan) (with_word (changed_state it.change it.state) serial object value_slot (Reference plan.next)))
      (left_same it)
      ∙ ap (with_left (placed_array it.machine site contents (changed_plan it.change (leaving it.state))))
      (contents_same it it.state serial (slice_set object.contents value_slot (Reference (leaving it.state).next)))

  text_set : (serial : ℕ) (units : List ℕ) (object : Object) → Same it (sets_text (changed_call it) serial units object) (sets_text (own_call it) serial units object)
  text_set serial units object =
      plan_gives it
      (with_array (changed_call it) made_characters serial object (with_room units (length units))) (with_array (own_call it) made_characters serial object (with_room units (length units))) []
      (with_array_same made_characters serial object (with_room units (length units)))

  range_set : (serial : ℕ) (object : Object) (units : List ℕ) (from count : ℤ)
      → Same it (sets_range (changed_call it) serial object units from count) (sets_range (own_call it) serial object units from count)
  range_set serial object units (pos from) (pos count) =
      branch_same it (nat_le (from + count) (length units))
      (sets_text (changed_call it) serial (range_of units from (from + count)) object) (sets_text (own_call it) serial (range_of units from (from + count)) object)
      (stops (changed_call it) string_index) (stops (own_call it) string_index)
      (text_set serial (range_of units from (from + count)) object) (stops_same it string_index)
  range_set serial object units (pos from) (negsuc count) = stops_same it string_index
  range_set serial object units (negsuc from) count = stops_same it string_index

  -- a count
  counted_same : (serial : ℕ) (plan : Plan) (count : ℕ) (found : Option Object)
      → counted_at serial (changed_plan it.change plan) count found ≡ changed_plan it.change (counted_at serial plan count found)
  counted_same serial plan count None = refl
  counted_same serial plan count (Some object) =
      ap (with_left (changed_plan it.change plan)) (contents_same it plan.left serial (slice_set object.contents count_slot (Number (pos count))))

  with_count_same : (serial : ℕ) (plan : Plan) (count : ℕ) → object_at (changed_state it.change plan.left) serial ≡ object_at plan.left serial
      → with_count serial (changed_plan it.change plan) count ≡ changed_plan it.change (with_count serial plan count)
  with_count_same serial plan count same =
      ap (counted_at serial (changed_plan it.change plan) count) same ∙ counted_same serial plan count (object_at plan.left serial)

  new_array_same : (serial : ℕ) → Passes it.test serial → (object : Object) (units : List ℕ) (room : ℕ)
      → in_new_array (changed_call it) serial object units room ≡ changed_plan it.change (in_new_array (own_call it) serial object units room)
  new_array_same serial passes object units room =
      ap (λ (plan : Plan). with_count serial plan (length units)) (with_array_same builder_characters serial object (with_room units room))
      ∙ with_count_same serial (with_array (own_call it) builder_characters serial object (with_room units room)) (length units)
      (look_same it serial (slice_set object.contents value_slot (Reference (leaving it.state).next)) serial passes)

  built_same : (serial : ℕ) → Passes it.test serial → (units : List ℕ) (room : ℕ) (object : Object)
      → Same it (builds (changed_call it) serial units room object) (builds (own_call it) serial units room object)
  built_same serial passes units room object =
      short_same it room (done (in_new_array (changed_call it) serial object units room)) (done (in_new_array (own_call it) serial object units room))
      (plan_gives it (in_new_array (changed_call it) serial object units room) (in_new_array (own_call it) serial object units room) []
      (new_array_same serial passes object units room))

  sized_same : (serial : ℕ) → Passes it.test serial → (room : ℤ) (object : Object)
      → Same it (builds_sized (changed_call it) serial room object) (builds_sized (own_call it) serial room object)
  sized_same serial passes (pos room) object = built_same serial passes [] room object
  sized_same serial passes (negsuc room) object = stops_same it negative_size

  -- other units
  own_array_same : (serial : ℕ) → Passes it.test serial → (place : ℕ) (array : Object) (units : List ℕ)
      → in_own_array (changed_call it) serial place array units ≡ changed_plan it.change (in_own_array (own_call it) serial place array units)
  own_array_same serial passes place array units =
      ap (λ (plan : Plan). with_count serial plan (length units)) (left_changed it it.state it.unseen.count place (new_units array units))
      ∙ with_count_same serial (leaving (with_contents_at it.state place (new_units array units))) (length units)
      (look_same it place (new_units array units) serial passes)

  holding_same : (serial : ℕ) → Passes it.test serial → (builder : Object) (place : ℕ) (array : Object) (units : List ℕ)
      → holding (changed_call it) serial builder place array units ≡ changed_plan it.change (holding (own_call it) serial builder place array units)
  holding_same serial passes builder place array units =
      either_same (changed_plan it.change) (nat_le (length units) (length array.contents))
      (in_own_array (changed_call it) serial place array units) (in_own_array (own_call it) serial place array units)
      (in_new_array (changed_call it) serial builder units (grown (length array.contents) (length units)))
      (in_new_array (own_call it) serial builder units (grown (length array.contents) (length units)))
      (own_array_same serial passes place array units) (new_array_same serial passes builder units (grown (length array.contents) (length units)))

  held_there : (serial : ℕ) → Passes it.test serial → (builder : Object) (units : List ℕ) (answer : List Value) (place : ℕ) (found : Option Object)
      → option_map (λ array. Gives (holding (changed_call it) serial builder place array units) answer) found
      ≡ option_map (changed_performed it.change) (option_map (λ array. Gives (holding (own_call it) serial builder place array units) answer) found)
  held_there serial passes builder units answer place None = refl
  held_there serial passes builder units answer place (Some array) =
      plan_gives it (holding (changed_call it) serial builder place array units) (holding (own_call it) serial builder place array units) answer
      (holding_same serial passes builder place array units)

  held_in : (serial : ℕ) → Passes it.test serial → (builder : Object) (units : List ℕ) (answer : List Value) (place : ℕ) → Passes it.test place
      → Same it (holds_in (changed_call it) serial builder units answer place) (holds_in (own_call it) serial builder units answer place)
  held_in serial passes builder units answer zero also =
      plan_gives it (in_new_array (changed_call it) serial builder units (grown 0 (length units))) (in_new_array (own_call it) serial builder units (grown 0 (length units))) answer
      (new_array_same serial passes builder units (grown 0 (length units)))
  held_in serial passes builder units answer (suc place) also =
      ap (option_map (λ array. Gives (holding (changed_call it) serial builder (suc place) array units) answer)) (it.unseen.same (suc place) also)
      ∙ held_there serial passes builder units answer (suc place) (object_at it.state (suc place))

  module _ (serial : ℕ) (passes : Passes it.test serial) (builder : Object) (there : object_at it.state serial ≡ Some builder) where
    holds_same : (answer : List Value) (units : List ℕ) → Same it (holds (changed_call it) serial builder answer units) (holds (own_call it) serial builder answer units)
    holds_same answer units =
        short_same it (length units)
        (option_and_then (holds_in (changed_call it) serial builder units answer) (reference_at builder value_slot))
        (option_and_then (holds_in (own_call it) serial builder units answer) (reference_at builder value_slot))
        (then_same it (holds_in (changed_call it) serial builder units answer) (holds_in (own_call it) serial builder units answer) (reference_at builder value_slot)
        (λ place is. held_in serial passes builder units answer place (named_passes it builder (inside_of it serial passes builder there) value_slot place is)))

    set_same : (unit : ℕ) (place : ℤ) (built : List ℕ)
        → Same it (set_at (changed_call it) serial unit place builder built) (set_at (own_call it) serial unit place builder built)
    set_same unit (pos place) built =
        let units : List ℕ = take place built ++ unit ∷ drop (place + 1) built in
        branch_same it (nat_lt place (length built)) (holds (changed_call it) serial builder [] units) (holds (own_call it) serial builder [] units)
        (stops (changed_call it) string_index) (stops (own_call it) string_index) (holds_same [] units) (stops_same it string_index)
    set_same unit (negsuc place) built = stops_same it string_index

    deleted_same : (place : ℤ) (built : List ℕ)
        → Same it (deleted_at (changed_call it) serial place builder built) (deleted_at (own_call it) serial place builder built)
    deleted_same (pos place) built =
        let units : List ℕ = take place built ++ drop (place + 1) built in
        branch_same it (nat_lt place (length built))
        (holds (changed_call it) serial builder (values.Ref serial ∷ []) units) (holds (own_call it) serial builder (values.Ref serial ∷ []) units)
        (stops (changed_call it) string_index) (stops (own_call it) string_index) (holds_same (values.Ref serial ∷ []) units) (stops_same it string_index)
    deleted_same (negsuc place) built = stops_same it string_index

    cut_same : (count : ℤ) (built : List ℕ) → Same it (cut_at (changed_call it) serial count builder built) (cut_at (own_call it) serial count builder built)
    cut_same (pos count) built =
        let units : List ℕ = take count built ++ replicate (count - length built) 0 in
        short_same it count (holds (changed_call it) serial builder [] units) (holds (own_call it) serial builder [] units) (holds_same [] units)
    cut_same (negsuc count) built = stops_same it string_index

  -- on what a builder has
  appends_same : (serial : ℕ) → Passes it.test serial → (units : List ℕ)
      → Same it (on_built (changed_call it) serial (appends (changed_call it) serial units)) (on_built (own_call it) serial (appends (own_call it) serial units))
  appends_same serial passes units =
      built_then it serial passes (appends (changed_call it) serial units) (appends (own_call it) serial units)
      (λ builder there built. holds_same serial passes builder there (values.Ref serial ∷ []) (built ++ units))

  appended_string : (serial : ℕ) → Passes it.test serial → (string : ℕ) → Passes it.test string
      → Same it (appends_string (changed_call it) serial string) (appends_string (own_call it) serial string)
  appended_string serial passes zero also = appends_same serial passes (codes "null")
  appended_string serial passes (suc place) also =
      text_then it (suc place) also
      (λ units. on_built (changed_call it) serial (appends (changed_call it) serial units)) (λ units. on_built (own_call it) serial (appends (own_call it) serial units))
      (λ units. appends_same serial passes units)

  -- each of them
  pub own_same : (native : Native) (arguments : List Value) → Held it arguments
      → Same it (own_native (changed_call it) native arguments) (own_native (own_call it) native arguments)
  own_same natives.StringNew (values.Ref string ∷ []) held = object_same it string (first it string [] held) _ _ (λ own there. text_set string [] own)
  own_same natives.StringNewChars (values.Ref string ∷ values.Ref array ∷ []) held =
      object_same it array (second it (values.Ref string) array [] held) _ _
      (λ its is. object_same it string (first it string (values.Ref array ∷ []) held) _ _ (λ own there. text_set string (units_of its) own))
  own_same natives.StringNewRange (values.Ref string ∷ values.Ref array ∷ values.Int from ∷ values.Int count ∷ []) held =
      object_same it array (second it (values.Ref string) array (values.Int from ∷ values.Int count ∷ []) held) _ _
      (λ its is. object_same it string (first it string (values.Ref array ∷ values.Int from ∷ values.Int count ∷ []) held) _ _
      (λ own there. range_set string own (units_of its) from count))
  own_same natives.StringBuilderNew (values.Ref builder ∷ []) held =
      let passes = first it builder [] held in object_same it builder passes _ _ (λ own there. built_same builder passes [] 16 own)
  own_same natives.StringBuilderNewCapacity (values.Ref builder ∷ values.Int room ∷ []) held =
      let passes = first it builder (values.Int room ∷ []) held in object_same it builder passes _ _ (λ own there. sized_same builder passes room own)
  own_same natives.StringBuilderNewString (values.Ref builder ∷ values.Ref string ∷ []) held =
      let passes = first it builder (values.Ref string ∷ []) held in
      text_then it string (second it (values.Ref builder) string [] held) _ _
      (λ units. object_same it builder passes _ _ (λ own there. built_same builder passes units (min most_elements (length units + 16)) own))
  own_same natives.StringBuilderAppendString (values.Ref builder ∷ values.Ref string ∷ []) held =
      appended_string builder (first it builder (values.Ref string ∷ []) held) string (second it (values.Ref builder) string [] held)
  own_same natives.StringBuilderAppendInt (values.Ref builder ∷ values.Int number ∷ []) held =
      appends_same builder (first it builder (values.Int number ∷ []) held) (digits number)
  own_same natives.StringBuilderAppendLong (values.Ref builder ∷ values.Long number ∷ []) held =
      appends_same builder (first it builder (values.Long number ∷ []) held) (digits number)
  own_same natives.StringBuilderAppendChar (values.Ref builder ∷ values.Int unit ∷ []) held =
      appends_same builder (first it builder (values.Int unit ∷ []) held) (unit_of unit ∷ [])
  own_same natives.StringBuilderAppendBoolean (values.Ref builder ∷ values.Int is ∷ []) held =
      appends_same builder (first it builder (values.Int is ∷ []) held) (truth is)
  own_same natives.StringBuilderAppendChars (values.Ref builder ∷ values.Ref array ∷ []) held =
      object_same it array (second it (values.Ref builder) array [] held) _ _
      (λ its is. appends_same builder (first it builder (values.Ref array ∷ []) held) (units_of its))
  own_same natives.StringBuilderSetCharAt (values.Ref builder ∷ values.Int place ∷ values.Int unit ∷ []) held =
      let passes = first it builder (values.Int place ∷ values.Int unit ∷ []) held in
      built_then it builder passes (set_at (changed_call it) builder (unit_of unit) place) (set_at (own_call it) builder (unit_of unit) place)
      (λ own there built. set_same builder passes own there (unit_of unit) place built)
  own_same natives.StringBuilderDeleteCharAt (values.Ref builder ∷ values.Int place ∷ []) held =
      let passes = first it builder (values.Int place ∷ []) held in
      built_then it builder passes (deleted_at (changed_call it) builder place) (deleted_at (own_call it) builder place)
      (λ own there built. deleted_same builder passes own there place built)
  own_same natives.StringBuilderSetLength (values.Ref builder ∷ values.Int count ∷ []) held =
      let passes = first it builder (values.Int count ∷ []) held in
      built_then it builder passes (cut_at (changed_call it) builder count) (cut_at (own_call it) builder count)
      (λ own there built. cut_same builder passes own there count built)
  own_same natives.IntegerNew (values.Ref box ∷ values.Int number ∷ []) held =
      object_same it box (first it box (values.Int number ∷ []) held) _ _ (λ own there. number_set box number own)
  own_same natives.LongNew (values.Ref box ∷ values.Long number ∷ []) held =
      object_same it box (first it box (values.Long number ∷ []) held) _ _ (λ own there. number_set box number own)
  own_same natives.CharacterNew (values.Ref box ∷ values.Int unit ∷ []) held =
      object_same it box (first it box (values.Int unit ∷ []) held) _ _ (λ own there. number_set box (pos (unit_of unit)) own)
  own_same natives.BooleanNew (values.Ref box ∷ values.Int is ∷ []) held =
      object_same it box (first it box (values.Int is ∷ []) held) _ _ (λ own there. number_set box (pos (low_bits 1 is)) own)
  own_same native arguments held = refl
