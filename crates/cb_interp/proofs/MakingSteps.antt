-- The steps of `new`, `newarray` and `anewarray`, as plans.
use Rattle.std.proofs.Common.{◌≡◌, ◌∙◌, ap, refl, sym, ℕ, pos, ◌+◌, true, List, [], ◌∷◌, drop, length, Option, Some, None}
use Rattle.std.proofs.lemmas.Bool.{false≢true}
use Rattle.std.specs.Prelude.{option_map, slice_get}
use Rattle.cb_frames.specs.Tops.{at_place as placed_at, changed_in, on_top, stack_in, with_stack}
use Rattle.cb_link.specs.Calls.{class_of_kind}
use Rattle.cb_link.specs.declared.named.Named.TheVariants as meanings
use Rattle.cb_machine.specs.Creating.{blank_element, blank_fields, makes_arrays, makes_object, site_number}
use Rattle.cb_machine.specs.Machine.{kind_of_site}
use Rattle.cb_machine.specs.Plans.{leaving, with_alike, with_left, with_one}
use Rattle.cb_machine.specs.Standing.{Now, goes_to, named_here, taken}
use Rattle.cb_plain.specs.State.{OfMethod}
use Rattle.cb_plain.specs.Updates.{with_frames}
use Rattle.cb_plain.specs.declared.class_state.ClassState.{ClassState}
use Rattle.cb_plain.specs.declared.class_state.ClassState.TheVariants as states
use Rattle.cb_plain.specs.declared.value.Value.{Value}
use Rattle.cb_plain.specs.declared.value.Value.TheVariants.{Int, Ref}
use Rattle.cb_shapes.specs.declared.sort.Sort.TheVariants as sorts
use Rattle.cb_act.specs.Going.{is_ready}
use Rattle.cb_interp.specs.Making.{makes_array, makes_one}
use Rattle.cb_act.specs.Steps.{StandsBefore}

module _ (now : Now) (pc : ℕ) (stands : StandsBefore now pc) where
  makes_at_is : (site : ℕ) → option_map (λ pc. goes_to now pc now.frame.locals (Ref (length now.state.objects + 1) ∷ now.frame.stack)
      (with_one (leaving now.state) site (kind_of_site now.machine.program site) (blank_fields now.machine.program (kind_of_site now.machine.program site)))) now.next
      ≡ Some (makes_one now.machine now.state site pc)
  makes_at_is site =
      rw stands.next
      (ap (λ frames. Some (with_left (with_one (leaving now.state) site (kind_of_site now.machine.program site) (blank_fields now.machine.program (kind_of_site now.machine.program site)))
      (with_frames now.state (changed_in (placed_at pc) (changed_in (with_stack (λ stack. Ref (length now.state.objects + 1) ∷ stack)) frames))))) (sym stands.frames))

  pub makes_is : (kind class site : ℕ) → named_here now ≡ meanings.Kind kind → class_of_kind now.machine.program kind ≡ Some class
      → is_ready (slice_get now.state.roots.classes class) ≡ true → site_number now.machine.program now.frame.method now.frame.pc 0 ≡ Some site
      → makes_object now ≡ Some (makes_one now.machine now.state site pc)
  makes_is kind class site names classed ready sited = go (slice_get now.state.roots.classes class) refl ready where
    go : (own : Option ClassState) → slice_get now.state.roots.classes class ≡ own → is_ready own ≡ true → makes_object now ≡ Some (makes_one now.machine now.state site pc)
    go None at ready = absurd (false≢true ready)
    go (Some states.Untouched) at ready = absurd (false≢true ready)
    go (Some states.Failed) at ready = absurd (false≢true ready)
    go (Some states.Busy) at ready = rw (names, classed, at, sited) (makes_at_is site)
    go (Some states.Done) at ready = rw (names, classed, at, sited) (makes_at_is site)

  array_at_is : (site size : ℕ) (rest : List Value) → now.frame.stack ≡ Int (pos size) ∷ rest
      → option_map (λ pc. goes_to now pc now.frame.locals (Ref (length now.state.objects + 1) ∷ rest)
      (with_alike (leaving now.state) site (kind_of_site now.machine.program site) (blank_element now.machine.program (kind_of_site now.machine.program site)) size 1)) now.next
      ≡ Some (makes_array now.machine now.state site size pc)
  array_at_is site size rest whole =
      rw stands.next
      (ap (λ rest. Some (with_left (with_alike (leaving now.state) site (kind_of_site now.machine.program site) (blank_element now.machine.program (kind_of_site now.machine.program site)) size 1)
      (with_frames now.state (changed_in (placed_at pc) (changed_in (with_stack (λ stack. Ref (length now.state.objects + 1) ∷ rest)) (OfMethod now.frame ∷ now.below))))))
      (ap (drop 1) (sym whole))
      ∙ ap (λ frames. Some (with_left (with_alike (leaving now.state) site (kind_of_site now.machine.program site) (blank_element now.machine.program (kind_of_site now.machine.program site)) size 1)
      (with_frames now.state (changed_in (placed_at pc) (changed_in (with_stack (λ stack. Ref (length now.state.objects + 1) ∷ drop 1 (on_top [] stack_in frames))) frames))))) (sym stands.frames))

  pub array_is : (site size : ℕ) (rest : List Value) → now.frame.stack ≡ Int (pos size) ∷ rest → site_number now.machine.program now.frame.method now.frame.pc 0 ≡ Some site
      → makes_arrays now 1 ≡ Some (makes_array now.machine now.state site size pc)
  array_is site size rest whole sited =
      let there : taken (sorts.Int ∷ []) now.frame.stack ≡ Some (Int (pos size) ∷ [], rest) = rw whole refl in
      rw (there, sited) (array_at_is site size rest whole)
