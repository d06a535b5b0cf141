-- Natives that give or fill arrays, of a state with changed objects.
use Rattle.std.proofs.Common.{◌≡◌, ◌∙◌, ap, refl, ℕ, ℤ, pos, ◌+◌, ◌==◌, Bool, true, false, ◌&&◌, List, [], ◌∷◌, ◌++◌, drop, length, take, Option, Some, None, zero, suc, if◌then◌else◌, nat_le}
use Rattle.std.specs.Prelude.{option_and_then, slice_set}
use Rattle.std.proofs.lemmas.Option.{none-some}
use Rattle.cb_kinds.specs.declared.basic.Basic.{Basic}
use Rattle.cb_kinds.specs.declared.basic.Basic.TheVariants as basics
use Rattle.cb_library.specs.declared.native.Native.{Native}
use Rattle.cb_library.specs.declared.native.Native.TheVariants as natives
use Rattle.cb_link.specs.Subtypes.{instance}
use Rattle.cb_machine.specs.Arrays.{element_of, fits_kind}
use Rattle.cb_machine.specs.Copying.{array_native, fitting, overwritten, suppressed_slot}
use Rattle.cb_machine.specs.Library.{cloneable}
use Rattle.cb_machine.specs.Machine.{kind_of_site}
use Rattle.cb_machine.specs.Performing.{Call, Performed, Gives, Stops, array_words, if_short, on_object, reference_at, stops}
use Rattle.cb_machine.specs.Plans.{Plan, leaving, with_left, with_one}
use Rattle.cb_machine.specs.Sites.{array_index, array_store, clone_not_supported, illegal_argument, made_characters, suppressed}
use Rattle.cb_machine.specs.Throwing.{throwing}
use Rattle.cb_machine.specs.Values.{natural}
use Rattle.cb_plain.specs.declared.value.Value.{Value}
use Rattle.cb_plain.specs.declared.value.Value.TheVariants as values
use Rattle.cb_plain.specs.State.{Content, Object, Reference, State}
use Rattle.cb_plain.specs.Updates.{object_at, with_contents_at}
use Rattle.cb_act.specs.Changing.{Passes, changed_plan, changed_state}
use Rattle.cb_act.proofs.KeptObjects.{value_held}
use Rattle.cb_act.proofs.NativesBasics.{Changed, Held, Inside, Same, and_then_same, changed_call, contents_same, first, inside_of, left_changed, left_same, named_passes, object_same, own_call, plan_gives, plan_stops, second, short_same, stops_same, then_same, words_same}

-- a new object with these contents
abbrev pub new_object : ℕ → ℕ → List Content → Plan → Option Performed
new_object site kind contents plan = Some (Gives (with_one plan site kind contents) (values.Ref plan.next ∷ []))

-- arraycopy: what can be copied, a range, and what fits
abbrev pub same_basic : Basic → Basic → Bool
same_basic basics.Boolean basics.Boolean = true
same_basic basics.Byte basics.Byte = true
same_basic basics.Char basics.Char = true
same_basic basics.Short basics.Short = true
same_basic basics.Int basics.Int = true
same_basic basics.Long basics.Long = true
same_basic (basics.Reference one) (basics.Reference other) = true
same_basic one other = false

abbrev pub can_copy : Option Basic → Option Basic → Bool
can_copy (Some one) (Some other) = same_basic one other
can_copy one other = false

abbrev pub is_range : ℤ → ℤ → ℕ → Bool
is_range (pos from) (pos count) size = nat_le (from + count) size
is_range from count size = false

abbrev pub fits : Call → Option Basic → Content → Bool
fits call (Some (basics.Reference kind)) (Reference (suc place)) = fits_kind call.machine.program kind (object_at call.state (suc place))
fits call element content = true

abbrev pub copied_to : State → ℕ → Object → ℕ → List Content → State
copied_to state serial target from contents = with_contents_at state serial (overwritten target.contents from contents)

abbrev pub copies_fitting : Call → ℕ → Object → ℕ → List Content → List Content → Option Performed
copies_fitting call serial target from all fit =
    if length fit == length all then Some (Gives (leaving (copied_to call.state serial target from fit)) [])
    else Some (Stops (throwing call.machine array_store (leaving (copied_to call.state serial target from fit))))

abbrev pub copies_range : Call → ℕ → Object → ℕ → List Content → Option Performed
copies_range call serial target from contents =
    copies_fitting call serial target from contents (fitting call (element_of call.machine.program target.kind) contents)

abbrev pub its_range : Object → ℤ → ℤ → List Content
its_range source from count = take (natural count) (drop (natural from) source.contents)

abbrev pub are_ranges : Object → ℤ → Object → ℤ → ℤ → Bool
are_ranges source from target to count = is_range from count (length source.contents) && is_range to count (length target.contents)

-- the exceptions that were suppressed
abbrev pub contents_of : Option Object → List Content
contents_of None = []
contents_of (Some array) = array.contents

abbrev pub suppressed_by : State → Object → List Content
suppressed_by state throwable = contents_of (option_and_then (object_at state) (reference_at throwable suppressed_slot))

abbrev pub suppresses : Call → ℕ → Object → ℕ → List Content → Plan → Plan
suppresses call serial throwable other contents plan =
    with_left (with_one plan suppressed (kind_of_site call.machine.program suppressed) (contents ++ Reference other ∷ []))
    (with_contents_at call.state serial (slice_set throwable.contents suppressed_slot (Reference plan.next)))

abbrev pub suppresses_short : Call → ℕ → ℕ → Object → List Content → Option Performed
suppresses_short call serial other throwable contents =
    if_short call (length contents + 1) (Some (Gives (suppresses call serial throwable other contents (leaving call.state)) []))

module _ (it : Changed) where
  new_same : (site kind : ℕ) (contents : List Content)
      → Same it (new_object site kind contents (leaving (changed_state it.change it.state))) (new_object site kind contents (leaving it.state))
  new_same site kind contents = ap (new_object site kind contents) (left_same it)

  cloned_same : (object : Object) (is : Bool)
      → Same it (if is then new_object object.site object.kind object.contents (leaving (changed_state it.change it.state)) else stops (changed_call it) clone_not_supported)
      (if is then new_object object.site object.kind object.contents (leaving it.state) else stops (own_call it) clone_not_supported)
  cloned_same object true = new_same object.site object.kind object.contents
  cloned_same object false = stops_same it clone_not_supported

  characters_same : (string : Object) → Inside it string.contents
      → Same it
      (option_and_then (λ contents. new_object made_characters (kind_of_site it.machine.program made_characters) contents (leaving (changed_state it.change it.state)))
      (array_words (changed_state it.change it.state) string))
      (option_and_then (λ contents. new_object made_characters (kind_of_site it.machine.program made_characters) contents (leaving it.state)) (array_words it.state string))
  characters_same string inside =
      ap (option_and_then (λ contents. new_object made_characters (kind_of_site it.machine.program made_characters) contents (leaving (changed_state it.change it.state))))
      (words_same it string inside)
      ∙ then_same it
      (λ contents. new_object made_characters (kind_of_site it.machine.program made_characters) contents (leaving (changed_state it.change it.state)))
      (λ contents. new_object made_characters (kind_of_site it.machine.program made_characters) contents (leaving it.state)) (array_words it.state string)
      (λ contents is. new_same made_characters (kind_of_site it.machine.program made_characters) contents)

  -- what passes passes in a part
  inside_drop : (count : ℕ) (contents : List Content) → Inside it contents → Inside it (drop count contents)
  inside_drop zero contents inside = inside
  inside_drop (suc count) [] inside = inside
  inside_drop (suc count) (content ∷ contents) inside = inside_drop count contents (λ word serial is. inside (suc word) serial is)

  inside_take : (count : ℕ) (contents : List Content) → Inside it contents → Inside it (take count contents)
  inside_take zero contents inside word serial is = absurd (none-some (Reference serial) is)
  inside_take (suc count) [] inside word serial is = inside word serial is
  inside_take (suc count) (content ∷ contents) inside zero serial is = inside zero serial is
  inside_take (suc count) (content ∷ contents) inside (suc word) serial is =
      inside_take count contents (λ word serial is. inside (suc word) serial is) word serial is

  fits_same : (element : Option Basic) (content : Content) → ((serial : ℕ) → content ≡ Reference serial → Passes it.test serial)
      → fits (changed_call it) element content ≡ fits (own_call it) element content
  fits_same (Some (basics.Reference kind)) (Reference (suc place)) passes =
      ap (fits_kind it.machine.program kind) (it.unseen.same (suc place) (passes (suc place) refl))
  fits_same element content passes = refl

  fitting_same : (element : Option Basic) (contents : List Content) → Inside it contents → fitting (changed_call it) element contents ≡ fitting (own_call it) element contents
  fitting_same element [] inside = refl
  fitting_same element (content ∷ contents) inside =
      ap (λ (is : Bool). if is then content ∷ fitting (changed_call it) element contents else [])
      (fits_same element content (λ serial is. inside zero serial (ap Some is)))
      ∙ ap (λ (rest : List Content). if fits (own_call it) element content then content ∷ rest else [])
      (fitting_same element contents (λ word serial is. inside (suc word) serial is))

  -- a range is copied
  copied_same : (serial : ℕ) (target : Object) (from : ℕ) (contents : List Content)
      → leaving (copied_to (changed_state it.change it.state) serial target from contents) ≡ changed_plan it.change (leaving (copied_to it.state serial target from contents))
  copied_same serial target from contents = left_changed it it.state it.unseen.count serial (overwritten target.contents from contents)

  copied_fitting : (serial : ℕ) (target : Object) (from : ℕ) (all fit : List Content)
      → Same it (copies_fitting (changed_call it) serial target from all fit) (copies_fitting (own_call it) serial target from all fit)
  copied_fitting serial target from all fit = go (length fit == length all) where
    one : Plan
    one = leaving (copied_to (changed_state it.change it.state) serial target from fit)

    other : Plan
    other = leaving (copied_to it.state serial target from fit)

    go : (is : Bool) → Same it (if is then Some (Gives one []) else Some (Stops (throwing it.machine array_store one)))
        (if is then Some (Gives other []) else Some (Stops (throwing it.machine array_store other)))
    go true = plan_gives it one other [] (copied_same serial target from fit)
    go false = plan_stops it (throwing it.machine array_store one) (throwing it.machine array_store other) (ap (throwing it.machine array_store) (copied_same serial target from fit))

  range_same : (serial : ℕ) (target : Object) (from : ℕ) (contents : List Content) → Inside it contents
      → Same it (copies_range (changed_call it) serial target from contents) (copies_range (own_call it) serial target from contents)
  range_same serial target from contents inside =
      ap (copies_fitting (changed_call it) serial target from contents) (fitting_same (element_of it.machine.program target.kind) contents inside)
      ∙ copied_fitting serial target from contents (fitting (own_call it) (element_of it.machine.program target.kind) contents)

  between_same : (source : Object) → Inside it source.contents → (from : ℤ) (serial : ℕ) (target : Object) (to count : ℤ) (alike ranges : Bool)
      → Same it
      (if alike then if ranges then copies_range (changed_call it) serial target (natural to) (its_range source from count) else stops (changed_call it) array_index
      else stops (changed_call it) array_store)
      (if alike then if ranges then copies_range (own_call it) serial target (natural to) (its_range source from count) else stops (own_call it) array_index
      else stops (own_call it) array_store)
  between_same source inside from serial target to count true true =
      range_same serial target (natural to) (its_range source from count)
      (inside_take (natural count) (drop (natural from) source.contents) (inside_drop (natural from) source.contents inside))
  between_same source inside from serial target to count true false = stops_same it array_index
  between_same source inside from serial target to count false ranges = stops_same it array_store

  -- the exceptions that were suppressed
  suppressed_same : (throwable : Object) → Inside it throwable.contents → suppressed_by (changed_state it.change it.state) throwable ≡ suppressed_by it.state throwable
  suppressed_same throwable inside =
      ap contents_of
      (and_then_same (object_at (changed_state it.change it.state)) (object_at it.state) (reference_at throwable suppressed_slot)
      (λ serial is. it.unseen.same serial (named_passes it throwable inside suppressed_slot serial is)))

  suppresses_same : (serial : ℕ) (throwable : Object) (other : ℕ) (contents : List Content)
      → suppresses (changed_call it) serial throwable other contents (leaving (changed_state it.change it.state))
      ≡ changed_plan it.change (suppresses (own_call it) serial throwable other contents (leaving it.state))
  suppresses_same serial throwable other contents =
      ap (suppresses (changed_call it) serial throwable other contents) (left_same it)
      ∙ ap (with_left (with_one (changed_plan it.change (leaving it.state)) suppressed (kind_of_site it.machine.program suppressed) (contents ++ Reference other ∷ [])))
      (contents_same it it.state serial (slice_set throwable.contents suppressed_slot (Reference (leaving it.state).next)))

  adds_same : (serial other : ℕ) (throwable : Object) → Inside it throwable.contents
      → Same it (suppresses_short (changed_call it) serial other throwable (suppressed_by (changed_state it.change it.state) throwable))
      (suppresses_short (own_call it) serial other throwable (suppressed_by it.state throwable))
  adds_same serial other throwable inside =
      let contents = suppressed_by it.state throwable in
      let one = suppresses (changed_call it) serial throwable other contents (leaving (changed_state it.change it.state)) in
      let own = suppresses (own_call it) serial throwable other contents (leaving it.state) in
      ap (suppresses_short (changed_call it) serial other throwable) (suppressed_same throwable inside)
      ∙ short_same it (length contents + 1) (Some (Gives one [])) (Some (Gives own [])) (plan_gives it one own [] (suppresses_same serial throwable other contents))

  added_same : (serial other : ℕ) → Passes it.test serial → (is : Bool)
      → Same it
      (if is then stops (changed_call it) illegal_argument
      else on_object (changed_call it) serial
      (λ throwable. suppresses_short (changed_call it) serial other throwable (suppressed_by (changed_state it.change it.state) throwable)))
      (if is then stops (own_call it) illegal_argument
      else on_object (own_call it) serial (λ throwable. suppresses_short (own_call it) serial other throwable (suppressed_by it.state throwable)))
  added_same serial other passes true = stops_same it illegal_argument
  added_same serial other passes false =
      object_same it serial passes
      (λ throwable. suppresses_short (changed_call it) serial other throwable (suppressed_by (changed_state it.change it.state) throwable))
      (λ throwable. suppresses_short (own_call it) serial other throwable (suppressed_by it.state throwable))
      (λ throwable there. adds_same serial other throwable (inside_of it serial passes throwable there))

  -- each of them
  pub array_same : (native : Native) (arguments : List Value) → Held it arguments
      → Same it (array_native (changed_call it) native arguments) (array_native (own_call it) native arguments)
  array_same natives.ObjectClone (values.Ref object ∷ []) held =
      object_same it object (first it object [] held) _ _ (λ own there. cloned_same own (instance it.machine.program own.kind cloneable))
  array_same natives.StringToCharArray (values.Ref string ∷ []) held =
      object_same it string (first it string [] held) _ _ (λ own there. characters_same own (inside_of it string (first it string [] held) own there))
  array_same natives.SystemArraycopy (values.Ref source ∷ values.Int from ∷ values.Ref target ∷ values.Int to ∷ values.Int count ∷ []) held =
      let passes = first it source (values.Int from ∷ values.Ref target ∷ values.Int to ∷ values.Int count ∷ []) held in
      object_same it source passes _ _
      (λ one there. object_same it target
      (value_held it.test (values.Ref source ∷ values.Int from ∷ values.Ref target ∷ values.Int to ∷ values.Int count ∷ []) 2 target refl held) _ _
      (λ other is. between_same one (inside_of it source passes one there) from target other to count
      (can_copy (element_of it.machine.program one.kind) (element_of it.machine.program other.kind)) (are_ranges one from other to count)))
  array_same natives.ThrowableAddSuppressed (values.Ref throwable ∷ values.Ref other ∷ []) held =
      object_same it other (second it (values.Ref throwable) other [] held) _ _
      (λ added there. added_same throwable other (first it throwable (values.Ref other ∷ []) held) (throwable == other))
  array_same natives.ThrowableGetSuppressed (values.Ref throwable ∷ []) held =
      object_same it throwable (first it throwable [] held) _ _
      (λ own there.
      ap (λ (contents : List Content). new_object suppressed (kind_of_site it.machine.program suppressed) contents (leaving (changed_state it.change it.state)))
      (suppressed_same own (inside_of it throwable (first it throwable [] held) own there))
      ∙ new_same suppressed (kind_of_site it.machine.program suppressed) (suppressed_by it.state own))
  array_same native arguments held = refl
