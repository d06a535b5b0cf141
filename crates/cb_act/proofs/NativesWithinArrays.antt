-- References pass in what natives give that give or fill arrays.
use Rattle.std.proofs.Common.{◌≡◌, refl, ℕ, ℤ, ◌+◌, ◌==◌, Bool, true, false, List, [], ◌∷◌, ◌++◌, drop, length, take, Option, Some, None, if◌then◌else◌}
use Rattle.std.specs.Prelude.{option_and_then, slice_set}
use Rattle.cb_heap.specs.Closed.{reference_in_word}
use Rattle.cb_kinds.specs.declared.basic.Basic.{Basic}
use Rattle.cb_library.specs.declared.native.Native.{Native}
use Rattle.cb_library.specs.declared.native.Native.TheVariants as natives
use Rattle.cb_link.specs.Subtypes.{instance}
use Rattle.cb_machine.specs.Arrays.{element_of}
use Rattle.cb_machine.specs.Copying.{array_native, fitting, overwritten, suppressed_slot}
use Rattle.cb_machine.specs.Library.{cloneable}
use Rattle.cb_machine.specs.Machine.{kind_of_site}
use Rattle.cb_machine.specs.Performing.{Gives, Stops, on_object, reference_at, stops}
use Rattle.cb_machine.specs.Plans.{leaving, with_one}
use Rattle.cb_machine.specs.Sites.{array_index, array_store, clone_not_supported, illegal_argument, made_characters, suppressed}
use Rattle.cb_machine.specs.Throwing.{throwing}
use Rattle.cb_machine.specs.Values.{natural}
use Rattle.cb_plain.specs.declared.value.Value.{Value}
use Rattle.cb_plain.specs.declared.value.Value.TheVariants as values
use Rattle.cb_plain.specs.Reach.{references_in, unless_null}
use Rattle.cb_plain.specs.State.{Content, Object, Reference}
use Rattle.cb_plain.specs.Updates.{object_at, with_contents_at}
use Rattle.cb_act.specs.Within.{IsPlanWithin, Pass, contents_references}
use Rattle.cb_act.proofs.KeptObjects.{parts}
use Rattle.cb_act.proofs.NativesArrays.{are_ranges, can_copy, contents_of, copied_to, copies_fitting, copies_range, fits, its_range, new_object, suppressed_by, suppresses, suppresses_short}
use Rattle.cb_act.proofs.NativesWithinBasics.{AllPass, Given, Passing, WordsPass, call_in, changed_passes, drop_passes, first_passes, left_passes, on_passes, one_passes, short_passes, stops_passes, take_passes, with_left_passes, word_set, words_of_object, words_pass}
use Rattle.cb_act.proofs.WithinBasics.{along, both, left_within, one_within, own_next, throwing_within}

module _ (it : Passing) where
  new_passes : (site kind : ℕ) (contents : List Content) → WordsPass it contents → Given it (new_object site kind contents (leaving it.state))
  new_passes site kind contents all = (
    one_within it.ok (leaving it.state) site kind contents (left_passes it) all,
    one_passes it (leaving it.state).next (own_next it.ok (leaving it.state) (left_passes it)),
  )

  cloned_passes : (object : Object) → WordsPass it object.contents → (is : Bool)
      → Given it (if is then new_object object.site object.kind object.contents (leaving it.state) else stops (call_in it) clone_not_supported)
  cloned_passes object all true = new_passes object.site object.kind object.contents all
  cloned_passes object all false = stops_passes it clone_not_supported

  -- a range is copied
  fitting_passes : (element : Option Basic) (contents : List Content) → WordsPass it contents → WordsPass it (fitting (call_in it) element contents)
  fitting_passes element [] all = refl
  fitting_passes element (content ∷ contents) all =
      let own = parts it.ok (reference_in_word content) (contents_references contents) all in
      go (fits (call_in it) element content) (both it.ok (reference_in_word content) (contents_references (fitting (call_in it) element contents)) own.0 (fitting_passes element contents own.1))
    where
      go : (is : Bool) → WordsPass it (content ∷ fitting (call_in it) element contents) → WordsPass it (if is then content ∷ fitting (call_in it) element contents else [])
      go false more = refl
      go true more = more

  overwritten_passes : (contents : List Content) (from : ℕ) (new : List Content) → WordsPass it contents → WordsPass it new → WordsPass it (overwritten contents from new)
  overwritten_passes contents from new all more =
      along it.ok reference_in_word (take from contents ++ new) (drop (from + length new) contents)
      (along it.ok reference_in_word (take from contents) new (take_passes it from contents all) more) (drop_passes it (from + length new) contents all)

  copied_passes : (serial : ℕ) (target : Object) → WordsPass it target.contents → (from : ℕ) (contents : List Content) → WordsPass it contents
      → IsPlanWithin it.ok (leaving (copied_to it.state serial target from contents))
  copied_passes serial target all from contents more =
      left_within it.ok (copied_to it.state serial target from contents)
      (changed_passes it it.state it.is serial (overwritten target.contents from contents) (overwritten_passes target.contents from contents all more))

  copied_fitting : (serial : ℕ) (target : Object) → WordsPass it target.contents → (from : ℕ) (all fit : List Content) → WordsPass it fit
      → Given it (copies_fitting (call_in it) serial target from all fit)
  copied_fitting serial target own from all fit more = go (length fit == length all) where
    go : (is : Bool)
        → Given it (if is then Some (Gives (leaving (copied_to it.state serial target from fit)) [])
        else Some (Stops (throwing it.machine array_store (leaving (copied_to it.state serial target from fit)))))
    go true = (copied_passes serial target own from fit more, refl)
    go false =
        throwing_within it.ok it.machine array_store 0 0 (leaving (copied_to it.state serial target from fit)) (copied_passes serial target own from fit more) refl refl

  between_passes : (source : Object) → WordsPass it source.contents → (from : ℤ) (serial : ℕ) (target : Object) → WordsPass it target.contents → (to count : ℤ) (alike ranges : Bool)
      → Given it
      (if alike then if ranges then copies_range (call_in it) serial target (natural to) (its_range source from count) else stops (call_in it) array_index
      else stops (call_in it) array_store)
  between_passes source all from serial target own to count true true =
      copied_fitting serial target own (natural to) (its_range source from count) (fitting (call_in it) (element_of it.machine.program target.kind) (its_range source from count))
      (fitting_passes (element_of it.machine.program target.kind) (its_range source from count)
      (take_passes it (natural count) (drop (natural from) source.contents) (drop_passes it (natural from) source.contents all)))
  between_passes source all from serial target own to count true false = stops_passes it array_index
  between_passes source all from serial target own to count false ranges = stops_passes it array_store

  -- the exceptions that were suppressed
  suppressed_passes : (throwable : Object) → WordsPass it (suppressed_by it.state throwable)
  suppressed_passes throwable = named (reference_at throwable suppressed_slot) where
    there : (serial : ℕ) (found : Option Object) → object_at it.state serial ≡ found → WordsPass it (contents_of found)
    there serial None is = refl
    there serial (Some array) is = words_of_object it serial array is

    named : (found : Option ℕ) → WordsPass it (contents_of (option_and_then (object_at it.state) found))
    named None = refl
    named (Some serial) = there serial (object_at it.state serial) refl

  suppresses_passes : (serial other : ℕ) → Pass it.ok (unless_null other) → (throwable : Object) → object_at it.state serial ≡ Some throwable
      → Given it (suppresses_short (call_in it) serial other throwable (suppressed_by it.state throwable))
  suppresses_passes serial other pass throwable there =
      let contents : List Content = suppressed_by it.state throwable ++ Reference other ∷ [] in
      let words : WordsPass it contents =
      along it.ok reference_in_word (suppressed_by it.state throwable) (Reference other ∷ []) (suppressed_passes throwable) (both it.ok (unless_null other) [] pass refl) in
      let next = own_next it.ok (leaving it.state) (left_passes it) in
      let changed : List Content = slice_set throwable.contents suppressed_slot (Reference (leaving it.state).next) in
      short_passes it (length (suppressed_by it.state throwable) + 1)
      (Some (Gives (suppresses (call_in it) serial throwable other (suppressed_by it.state throwable) (leaving it.state)) [])) (
        with_left_passes it (with_one (leaving it.state) suppressed (kind_of_site it.machine.program suppressed) contents) (with_contents_at it.state serial changed)
            (one_within it.ok (leaving it.state) suppressed (kind_of_site it.machine.program suppressed) contents (left_passes it) words)
            (changed_passes it it.state it.is serial changed (word_set it serial throwable there suppressed_slot (Reference (leaving it.state).next) next)),
        refl,
      )

  added_passes : (serial other : ℕ) → Pass it.ok (unless_null other) → (is : Bool)
      → Given it
      (if is then stops (call_in it) illegal_argument
      else on_object (call_in it) serial (λ throwable. suppresses_short (call_in it) serial other throwable (suppressed_by it.state throwable)))
  added_passes serial other pass true = stops_passes it illegal_argument
  added_passes serial other pass false =
      on_passes it serial (λ throwable. suppresses_short (call_in it) serial other throwable (suppressed_by it.state throwable))
      (λ throwable there. suppresses_passes serial other pass throwable there)

  -- each of them
  pub array_within : (native : Native) (arguments : List Value) → AllPass it arguments → Given it (array_native (call_in it) native arguments)
  array_within natives.ObjectClone (values.Ref object ∷ []) all =
      on_passes it object _ (λ own there. cloned_passes own (words_of_object it object own there) (instance it.machine.program own.kind cloneable))
  array_within natives.StringToCharArray (values.Ref string ∷ []) all =
      on_passes it string _
      (λ own there. words_pass it (λ contents. new_object made_characters (kind_of_site it.machine.program made_characters) contents (leaving it.state))
      (λ contents words. new_passes made_characters (kind_of_site it.machine.program made_characters) contents words) own)
  array_within natives.SystemArraycopy (values.Ref source ∷ values.Int from ∷ values.Ref target ∷ values.Int to ∷ values.Int count ∷ []) all =
      on_passes it source _
      (λ one there. on_passes it target _
      (λ other is. between_passes one (words_of_object it source one there) from target other (words_of_object it target other is) to count
      (can_copy (element_of it.machine.program one.kind) (element_of it.machine.program other.kind)) (are_ranges one from other to count)))
  array_within natives.ThrowableAddSuppressed (values.Ref throwable ∷ values.Ref other ∷ []) all =
      let rest = (parts it.ok (unless_null throwable) (references_in (values.Ref other ∷ [])) all).1 in
      on_passes it other _ (λ added there. added_passes throwable other (first_passes it other [] rest) (throwable == other))
  array_within natives.ThrowableGetSuppressed (values.Ref throwable ∷ []) all =
      on_passes it throwable _
      (λ own there. new_passes suppressed (kind_of_site it.machine.program suppressed) (suppressed_by it.state own) (suppressed_passes own))
  array_within native arguments all = tt
