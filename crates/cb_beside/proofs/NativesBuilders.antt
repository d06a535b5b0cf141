-- Natives that set the fields of their own object.
use Rattle.std.proofs.Common.{◌≡◌, ap, refl, ℕ, ℤ, pos, negsuc, ◌+◌, ◌-◌, List, [], ◌∷◌, ◌++◌, codes, drop, length, min, replicate, take, Option, Some, None, zero, suc, nat_le, nat_lt}
use Rattle.std.specs.Prelude.{option_map}
use Rattle.cb_library.specs.declared.native.Native.{Native}
use Rattle.cb_library.specs.declared.native.Native.TheVariants as natives
use Rattle.cb_machine.specs.Builders.{appends, appends_string, builds, builds_sized, cut_at, deleted_at, grown, holding, holds, holds_in, in_new_array, in_place, on_built, own_native, set_at, sets_range, with_array, with_count}
use Rattle.cb_machine.specs.Performing.{Performed, Gives, count_slot, most_elements, reference_at, units_of, value_slot, with_word}
use Rattle.cb_machine.specs.Plans.{Plan, leaving, with_left}
use Rattle.cb_machine.specs.Sites.{builder_characters}
use Rattle.cb_machine.specs.Texts.{digits, truth, unit_of}
use Rattle.cb_plain.specs.declared.value.Value.{Value}
use Rattle.cb_plain.specs.declared.value.Value.TheVariants as values
use Rattle.cb_plain.specs.State.{Number, Object}
use Rattle.cb_plain.specs.Updates.{object_at}
use Rattle.cb_beside.specs.Beside.{performed_beside, plan_beside}
use Rattle.cb_beside.proofs.Going.{either_same}
use Rattle.cb_beside.proofs.NativesBasics.{Alike, Apart, and_same, branch_same, built_then, object_same, short_same, text_then, there}

-- a builder counts its units
abbrev counted : ℕ → Plan → ℕ → Option Object → Plan
counted serial plan count None = plan
counted serial plan count (Some object) = with_left plan (with_word plan.left serial object count_slot (Number (pos count)))

module _ (it : Apart) where
  abbrev next_to : Plan → Plan
  next_to plan = plan_beside it.input it.printed plan

  counted_same : (serial : ℕ) (plan : Plan) (count : ℕ) (found : Option Object) → counted serial (next_to plan) count found ≡ next_to (counted serial plan count found)
  counted_same serial plan count None = refl
  counted_same serial plan count (Some object) = refl

  with_count_same : (serial : ℕ) (plan : Plan) (count : ℕ) → with_count (there it) serial (next_to plan) count ≡ next_to (with_count it.own serial plan count)
  with_count_same serial plan count = counted_same serial plan count (object_at plan.left serial)

  range_set : (serial : ℕ) (object : Object) (units : List ℕ) (from count : ℤ)
      → Alike it (sets_range (there it) serial object units from count) (sets_range it.own serial object units from count)
  range_set serial object units (pos from) (pos count) = branch_same it (nat_le (from + count) (length units)) _ _ _ _ refl refl
  range_set serial object units (pos from) (negsuc count) = refl
  range_set serial object units (negsuc from) count = refl

  built_same : (serial : ℕ) (units : List ℕ) (room : ℕ) (object : Object)
      → Alike it (builds (there it) serial units room object) (builds it.own serial units room object)
  built_same serial units room object =
      short_same it room _ _
      (ap (λ (plan : Plan). Some (Gives plan [])) (with_count_same serial (with_array it.own builder_characters serial object units room) (length units)))

  sized_same : (serial : ℕ) (room : ℤ) (object : Object) → Alike it (builds_sized (there it) serial room object) (builds_sized it.own serial room object)
  sized_same serial (pos room) object = built_same serial [] room object
  sized_same serial (negsuc room) object = refl

  -- other units
  new_array_same : (serial : ℕ) (builder : Object) (room : ℕ) (units : List ℕ)
      → in_new_array (there it) serial builder room units ≡ next_to (in_new_array it.own serial builder room units)
  new_array_same serial builder room units =
      with_count_same serial (with_array it.own builder_characters serial builder units (grown room (length units))) (length units)

  holding_same : (serial : ℕ) (builder : Object) (place : ℕ) (array : Object) (units : List ℕ)
      → holding (there it) serial builder place array units ≡ next_to (holding it.own serial builder place array units)
  holding_same serial builder place array units =
      either_same next_to (nat_le (length units) (length array.contents)) _ _ _ _
      (with_count_same serial (leaving (in_place it.own.state place array units)) (length units))
      (new_array_same serial builder (length array.contents) units)

  held_there : (serial : ℕ) (builder : Object) (units : List ℕ) (answer : List Value) (place : ℕ) (found : Option Object)
      → option_map (λ array. Gives (holding (there it) serial builder place array units) answer) found
      ≡ option_map (performed_beside it.input it.printed) (option_map (λ array. Gives (holding it.own serial builder place array units) answer) found)
  held_there serial builder units answer place None = refl
  held_there serial builder units answer place (Some array) =
      ap (λ (plan : Plan). Some (Gives plan answer)) (holding_same serial builder place array units)

  held_in : (serial : ℕ) (builder : Object) (units : List ℕ) (answer : List Value) (place : ℕ)
      → Alike it (holds_in (there it) serial builder units answer place) (holds_in it.own serial builder units answer place)
  held_in serial builder units answer zero = ap (λ (plan : Plan). Some (Gives plan answer)) (new_array_same serial builder 0 units)
  held_in serial builder units answer (suc place) = held_there serial builder units answer (suc place) (object_at it.own.state (suc place))

  holds_same : (serial : ℕ) (builder : Object) (answer : List Value) (units : List ℕ)
      → Alike it (holds (there it) serial builder answer units) (holds it.own serial builder answer units)
  holds_same serial builder answer units =
      short_same it (length units) _ _
      (and_same it (holds_in (there it) serial builder units answer) (holds_in it.own serial builder units answer) (reference_at builder value_slot)
      (held_in serial builder units answer))

  set_same : (serial unit : ℕ) (place : ℤ) (builder : Object) (built : List ℕ)
      → Alike it (set_at (there it) serial unit place builder built) (set_at it.own serial unit place builder built)
  set_same serial unit (pos place) builder built =
      branch_same it (nat_lt place (length built)) _ _ _ _ (holds_same serial builder [] (take place built ++ unit ∷ drop (place + 1) built)) refl
  set_same serial unit (negsuc place) builder built = refl

  deleted_same : (serial : ℕ) (place : ℤ) (builder : Object) (built : List ℕ)
      → Alike it (deleted_at (there it) serial place builder built) (deleted_at it.own serial place builder built)
  deleted_same serial (pos place) builder built =
      branch_same it (nat_lt place (length built)) _ _ _ _ (holds_same serial builder (values.Ref serial ∷ []) (take place built ++ drop (place + 1) built)) refl
  deleted_same serial (negsuc place) builder built = refl

  cut_same : (serial : ℕ) (count : ℤ) (builder : Object) (built : List ℕ)
      → Alike it (cut_at (there it) serial count builder built) (cut_at it.own serial count builder built)
  cut_same serial (pos count) builder built =
      short_same it count _ _ (holds_same serial builder [] (take count built ++ replicate (count - length built) 0))
  cut_same serial (negsuc count) builder built = refl

  -- on what a builder has
  on_built_same : (serial : ℕ) (one other : Object → List ℕ → Option Performed) → ((object : Object) (units : List ℕ) → Alike it (one object units) (other object units))
      → Alike it (on_built (there it) serial one) (on_built it.own serial other)
  on_built_same serial one other each = built_then it serial one other each

  appends_same : (serial : ℕ) (units : List ℕ) → Alike it (appends (there it) serial units) (appends it.own serial units)
  appends_same serial units =
      on_built_same serial _ _ (λ builder built. holds_same serial builder (values.Ref serial ∷ []) (built ++ units))

  appended_string : (serial string : ℕ) → Alike it (appends_string (there it) serial string) (appends_string it.own serial string)
  appended_string serial zero = appends_same serial (codes "null")
  appended_string serial (suc place) = text_then it (suc place) (appends (there it) serial) (appends it.own serial) (appends_same serial)

  -- each of them
  pub own_same : (native : Native) (arguments : List Value) → Alike it (own_native (there it) native arguments) (own_native it.own native arguments)
  own_same natives.StringNew (values.Ref string ∷ []) = object_same it string _ _ (λ own. refl)
  own_same natives.StringNewChars (values.Ref string ∷ values.Ref array ∷ []) =
      object_same it array _ _ (λ its. object_same it string _ _ (λ own. refl))
  own_same natives.StringNewRange (values.Ref string ∷ values.Ref array ∷ values.Int from ∷ values.Int count ∷ []) =
      object_same it array _ _ (λ its. object_same it string _ _ (λ own. range_set string own (units_of its) from count))
  own_same natives.StringBuilderNew (values.Ref builder ∷ []) = object_same it builder _ _ (built_same builder [] 16)
  own_same natives.StringBuilderNewCapacity (values.Ref builder ∷ values.Int room ∷ []) = object_same it builder _ _ (sized_same builder room)
  own_same natives.StringBuilderNewString (values.Ref builder ∷ values.Ref string ∷ []) =
      text_then it string _ _ (λ units. object_same it builder _ _ (built_same builder units (min most_elements (length units + 16))))
  own_same natives.StringBuilderAppendString (values.Ref builder ∷ values.Ref string ∷ []) = appended_string builder string
  own_same natives.StringBuilderAppendInt (values.Ref builder ∷ values.Int number ∷ []) = appends_same builder (digits number)
  own_same natives.StringBuilderAppendLong (values.Ref builder ∷ values.Long number ∷ []) = appends_same builder (digits number)
  own_same natives.StringBuilderAppendChar (values.Ref builder ∷ values.Int unit ∷ []) = appends_same builder (unit_of unit ∷ [])
  own_same natives.StringBuilderAppendBoolean (values.Ref builder ∷ values.Int is ∷ []) = appends_same builder (truth is)
  own_same natives.StringBuilderAppendChars (values.Ref builder ∷ values.Ref array ∷ []) =
      object_same it array _ _ (λ its. appends_same builder (units_of its))
  own_same natives.StringBuilderSetCharAt (values.Ref builder ∷ values.Int place ∷ values.Int unit ∷ []) =
      on_built_same builder _ _ (set_same builder (unit_of unit) place)
  own_same natives.StringBuilderDeleteCharAt (values.Ref builder ∷ values.Int place ∷ []) = on_built_same builder _ _ (deleted_same builder place)
  own_same natives.StringBuilderSetLength (values.Ref builder ∷ values.Int count ∷ []) = on_built_same builder _ _ (cut_same builder count)
  own_same natives.IntegerNew (values.Ref box ∷ values.Int number ∷ []) = object_same it box _ _ (λ own. refl)
  own_same natives.LongNew (values.Ref box ∷ values.Long number ∷ []) = object_same it box _ _ (λ own. refl)
  own_same natives.CharacterNew (values.Ref box ∷ values.Int unit ∷ []) = object_same it box _ _ (λ own. refl)
  own_same natives.BooleanNew (values.Ref box ∷ values.Int is ∷ []) = object_same it box _ _ (λ own. refl)
  own_same native arguments = refl
