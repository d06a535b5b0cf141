-- References pass in what natives give that set the fields of their own object.
use Rattle.std.proofs.Common.{◌≡◌, refl, ℕ, ℤ, pos, negsuc, ◌+◌, ◌-◌, Bool, true, false, List, [], ◌∷◌, ◌++◌, codes, drop, length, min, replicate, take, Option, Some, None, zero, suc, if◌then◌else◌, nat_le, nat_lt}
use Rattle.std.specs.Prelude.{option_and_then, option_map, slice_set}
use Rattle.cb_arith.specs.Bits.{low_bits}
use Rattle.cb_heap.specs.Closed.{reference_in_word}
use Rattle.cb_library.specs.declared.native.Native.{Native}
use Rattle.cb_library.specs.declared.native.Native.TheVariants as natives
use Rattle.cb_machine.specs.Builders.{grown, own_native}
use Rattle.cb_machine.specs.Machine.{kind_of_site}
use Rattle.cb_machine.specs.Performing.{Gives, count_slot, most_elements, reference_at, stops, units_of, value_slot, with_word}
use Rattle.cb_machine.specs.Plans.{Plan, leaving}
use Rattle.cb_machine.specs.Sites.{builder_characters, made_characters, negative_size, string_index}
use Rattle.cb_machine.specs.Strings.{unit_contents}
use Rattle.cb_machine.specs.Texts.{digits, range_of, truth, unit_of}
use Rattle.cb_plain.specs.declared.value.Value.{Value}
use Rattle.cb_plain.specs.declared.value.Value.TheVariants as values
use Rattle.cb_plain.specs.State.{Number, Object, Reference}
use Rattle.cb_plain.specs.Updates.{object_at, with_contents_at}
use Rattle.cb_act.specs.Within.{IsPlanWithin}
use Rattle.cb_act.proofs.NativesBuilders.{appends, appends_string, builds, builds_sized, counted_at, cut_at, deleted_at, done, holding, holds, holds_in, in_new_array, in_own_array, new_units, on_built, placed_array, set_at, sets_range, sets_text, with_array, with_count, with_room}
use Rattle.cb_act.proofs.NativesWithinBasics.{AllPass, Given, Passing, WordsPass, branch_passes, built_passes, call_in, changed_passes, drop_passes, first_passes, left_passes, on_passes, one_passes, short_passes, stops_passes, text_passes, then_passes, with_left_passes, word_set, words_of_object}
use Rattle.cb_act.proofs.WithinBasics.{along, left_within, one_within, own_next, set_passes, units_pass}
use Rattle.cb_act.proofs.WithinObjects.{contents_pass, object_passes}

module _ (it : Passing) where
  room_passes : (units : List ℕ) (room : ℕ) → WordsPass it (with_room units room)
  room_passes units room = units_pass it.ok (units ++ replicate (room - length units) 0)

  -- a count
  counted_passes : (serial : ℕ) (plan : Plan) (count : ℕ) → IsPlanWithin it.ok plan → (found : Option Object) → object_at plan.left serial ≡ found
      → IsPlanWithin it.ok (counted_at serial plan count found)
  counted_passes serial plan count is None there = is
  counted_passes serial plan count is (Some object) there = record {
    roots = is.roots;
    objects = contents_pass it.ok plan.left.objects serial (slice_set object.contents count_slot (Number (pos count))) is.objects
        (set_passes it.ok reference_in_word object.contents count_slot (Number (pos count)) (object_passes it.ok plan.left.objects serial object there is.objects) refl);
    next = is.next;
    placed = is.placed;
  }

  count_passes : (serial : ℕ) (plan : Plan) (count : ℕ) → IsPlanWithin it.ok plan → IsPlanWithin it.ok (with_count serial plan count)
  count_passes serial plan count is = counted_passes serial plan count is (object_at plan.left serial) refl

  module _ (serial : ℕ) (own : Object) (there : object_at it.state serial ≡ Some own) where
    -- a number, and an array
    number_set : (number : ℤ) → Given it (done (leaving (with_word it.state serial own value_slot (Number number))))
    number_set number = (
      left_within it.ok (with_word it.state serial own value_slot (Number number))
          (changed_passes it it.state it.is serial (slice_set own.contents value_slot (Number number)) (word_set it serial own there value_slot (Number number) refl)),
      refl,
    )

    with_array_passes : (site : ℕ) (units : List ℕ) (room : ℕ) → IsPlanWithin it.ok (with_array (call_in it) site serial own (with_room units room))
    with_array_passes site units room =
        let content = Reference (leaving it.state).next in
        with_left_passes it (placed_array it.machine site (with_room units room) (leaving it.state)) (with_word it.state serial own value_slot content)
        (one_within it.ok (leaving it.state) site (kind_of_site it.machine.program site) (with_room units room) (left_passes it) (room_passes units room))
        (changed_passes it it.state it.is serial (slice_set own.contents value_slot content)
        (word_set it serial own there value_slot content (own_next it.ok (leaving it.state) (left_passes it))))

    text_set : (units : List ℕ) → Given it (sets_text (call_in it) serial units own)
    text_set units = (with_array_passes made_characters units (length units), refl)

    range_set : (units : List ℕ) (from count : ℤ) → Given it (sets_range (call_in it) serial own units from count)
    range_set units (pos from) (pos count) =
        branch_passes it (nat_le (from + count) (length units)) (sets_text (call_in it) serial (range_of units from (from + count)) own) (stops (call_in it) string_index)
        (text_set (range_of units from (from + count))) (stops_passes it string_index)
    range_set units (pos from) (negsuc count) = stops_passes it string_index
    range_set units (negsuc from) count = stops_passes it string_index

    -- a builder with a new array, or other units
    new_array_passes : (units : List ℕ) (room : ℕ) → IsPlanWithin it.ok (in_new_array (call_in it) serial own units room)
    new_array_passes units room =
        count_passes serial (with_array (call_in it) builder_characters serial own (with_room units room)) (length units) (with_array_passes builder_characters units room)

    builds_pass : (units : List ℕ) (room : ℕ) → Given it (builds (call_in it) serial units room own)
    builds_pass units room = short_passes it room (done (in_new_array (call_in it) serial own units room)) (new_array_passes units room, refl)

    sized_passes : (room : ℤ) → Given it (builds_sized (call_in it) serial room own)
    sized_passes (pos room) = builds_pass [] room
    sized_passes (negsuc room) = stops_passes it negative_size

    own_array_passes : (place : ℕ) (array : Object) (units : List ℕ) → WordsPass it array.contents → IsPlanWithin it.ok (in_own_array (call_in it) serial place array units)
    own_array_passes place array units words =
        count_passes serial (leaving (with_contents_at it.state place (new_units array units))) (length units)
        (left_within it.ok (with_contents_at it.state place (new_units array units))
        (changed_passes it it.state it.is place (new_units array units)
        (along it.ok reference_in_word (unit_contents units) (drop (length units) array.contents) (units_pass it.ok units)
        (drop_passes it (length units) array.contents words))))

    held_there : (units : List ℕ) (answer : List Value) → AllPass it answer → (place : ℕ) (found : Option Object) → object_at it.state place ≡ found
        → Given it (option_map (λ array. Gives (holding (call_in it) serial own place array units) answer) found)
    held_there units answer all place None is = tt
    held_there units answer all place (Some array) is = go (nat_le (length units) (length array.contents)) where
      go : (fits : Bool)
          → Given it (Some (Gives (if fits then in_own_array (call_in it) serial place array units
          else in_new_array (call_in it) serial own units (grown (length array.contents) (length units))) answer))
      go true = (own_array_passes place array units (words_of_object it place array is), all)
      go false = (new_array_passes units (grown (length array.contents) (length units)), all)

    held_in : (units : List ℕ) (answer : List Value) → AllPass it answer → (place : ℕ) → Given it (holds_in (call_in it) serial own units answer place)
    held_in units answer all zero = (new_array_passes units (grown 0 (length units)), all)
    held_in units answer all (suc place) = held_there units answer all (suc place) (object_at it.state (suc place)) refl

    holds_pass : (answer : List Value) → AllPass it answer → (units : List ℕ) → Given it (holds (call_in it) serial own answer units)
    holds_pass answer all units =
        short_passes it (length units) (option_and_then (holds_in (call_in it) serial own units answer) (reference_at own value_slot))
        (then_passes it (holds_in (call_in it) serial own units answer) (reference_at own value_slot) (λ place is. held_in units answer all place))

    set_passes_at : (unit : ℕ) (place : ℤ) (built : List ℕ) → Given it (set_at (call_in it) serial unit place own built)
    set_passes_at unit (pos place) built =
        let units : List ℕ = take place built ++ unit ∷ drop (place + 1) built in
        branch_passes it (nat_lt place (length built)) (holds (call_in it) serial own [] units) (stops (call_in it) string_index)
        (holds_pass [] refl units) (stops_passes it string_index)
    set_passes_at unit (negsuc place) built = stops_passes it string_index

    cut_passes : (count : ℤ) (built : List ℕ) → Given it (cut_at (call_in it) serial count own built)
    cut_passes (pos count) built =
        let units : List ℕ = take count built ++ replicate (count - length built) 0 in
        short_passes it count (holds (call_in it) serial own [] units) (holds_pass [] refl units)
    cut_passes (negsuc count) built = stops_passes it string_index

    deleted_passes : AllPass it (values.Ref serial ∷ []) → (place : ℤ) (built : List ℕ) → Given it (deleted_at (call_in it) serial place own built)
    deleted_passes all (pos place) built =
        let units : List ℕ = take place built ++ drop (place + 1) built in
        branch_passes it (nat_lt place (length built)) (holds (call_in it) serial own (values.Ref serial ∷ []) units) (stops (call_in it) string_index)
        (holds_pass (values.Ref serial ∷ []) all units) (stops_passes it string_index)
    deleted_passes all (negsuc place) built = stops_passes it string_index

  -- on what a builder has
  appends_pass : (serial : ℕ) → AllPass it (values.Ref serial ∷ []) → (units : List ℕ) → Given it (on_built (call_in it) serial (appends (call_in it) serial units))
  appends_pass serial all units =
      built_passes it serial (appends (call_in it) serial units) (λ builder there built. holds_pass serial builder there (values.Ref serial ∷ []) all (built ++ units))

  string_appended : (serial : ℕ) → AllPass it (values.Ref serial ∷ []) → (string : ℕ) → Given it (appends_string (call_in it) serial string)
  string_appended serial all zero = appends_pass serial all (codes "null")
  string_appended serial all (suc place) =
      text_passes it (suc place) (λ units. on_built (call_in it) serial (appends (call_in it) serial units)) (λ units. appends_pass serial all units)

  -- a builder comes first, and is given back
  itself : (serial : ℕ) (rest : List Value) → AllPass it (values.Ref serial ∷ rest) → AllPass it (values.Ref serial ∷ [])
  itself serial rest all = one_passes it serial (first_passes it serial rest all)

  -- each of them
  pub own_within : (native : Native) (arguments : List Value) → AllPass it arguments → Given it (own_native (call_in it) native arguments)
  own_within natives.StringNew (values.Ref string ∷ []) all = on_passes it string _ (λ own there. text_set string own there [])
  own_within natives.StringNewChars (values.Ref string ∷ values.Ref array ∷ []) all =
      on_passes it array _ (λ its is. on_passes it string _ (λ own there. text_set string own there (units_of its)))
  own_within natives.StringNewRange (values.Ref string ∷ values.Ref array ∷ values.Int from ∷ values.Int count ∷ []) all =
      on_passes it array _ (λ its is. on_passes it string _ (λ own there. range_set string own there (units_of its) from count))
  own_within natives.StringBuilderNew (values.Ref builder ∷ []) all = on_passes it builder _ (λ own there. builds_pass builder own there [] 16)
  own_within natives.StringBuilderNewCapacity (values.Ref builder ∷ values.Int room ∷ []) all = on_passes it builder _ (λ own there. sized_passes builder own there room)
  own_within natives.StringBuilderNewString (values.Ref builder ∷ values.Ref string ∷ []) all =
      text_passes it string _ (λ units. on_passes it builder _ (λ own there. builds_pass builder own there units (min most_elements (length units + 16))))
  own_within natives.StringBuilderAppendString (values.Ref builder ∷ values.Ref string ∷ []) all = string_appended builder (itself builder (values.Ref string ∷ []) all) string
  own_within natives.StringBuilderAppendInt (values.Ref builder ∷ values.Int number ∷ []) all = appends_pass builder (itself builder (values.Int number ∷ []) all) (digits number)
  own_within natives.StringBuilderAppendLong (values.Ref builder ∷ values.Long number ∷ []) all = appends_pass builder (itself builder (values.Long number ∷ []) all) (digits number)
  own_within natives.StringBuilderAppendChar (values.Ref builder ∷ values.Int unit ∷ []) all = appends_pass builder (itself builder (values.Int unit ∷ []) all) (unit_of unit ∷ [])
  own_within natives.StringBuilderAppendBoolean (values.Ref builder ∷ values.Int is ∷ []) all = appends_pass builder (itself builder (values.Int is ∷ []) all) (truth is)
  own_within natives.StringBuilderAppendChars (values.Ref builder ∷ values.Ref array ∷ []) all =
      on_passes it array _ (λ its is. appends_pass builder (itself builder (values.Ref array ∷ []) all) (units_of its))
  own_within natives.StringBuilderSetCharAt (values.Ref builder ∷ values.Int place ∷ values.Int unit ∷ []) all =
      built_passes it builder (set_at (call_in it) builder (unit_of unit) place) (λ own there built. set_passes_at builder own there (unit_of unit) place built)
  own_within natives.StringBuilderDeleteCharAt (values.Ref builder ∷ values.Int place ∷ []) all =
      built_passes it builder (deleted_at (call_in it) builder place)
      (λ own there built. deleted_passes builder own there (itself builder (values.Int place ∷ []) all) place built)
  own_within natives.StringBuilderSetLength (values.Ref builder ∷ values.Int count ∷ []) all =
      built_passes it builder (cut_at (call_in it) builder count) (λ own there built. cut_passes builder own there count built)
  own_within natives.IntegerNew (values.Ref box ∷ values.Int number ∷ []) all = on_passes it box _ (λ own there. number_set box own there number)
  own_within natives.LongNew (values.Ref box ∷ values.Long number ∷ []) all = on_passes it box _ (λ own there. number_set box own there number)
  own_within natives.CharacterNew (values.Ref box ∷ values.Int unit ∷ []) all = on_passes it box _ (λ own there. number_set box own there (pos (unit_of unit)))
  own_within natives.BooleanNew (values.Ref box ∷ values.Int is ∷ []) all = on_passes it box _ (λ own there. number_set box own there (pos (low_bits 1 is)))
  own_within native arguments all = tt
