-- What switches, static fields, calls and returns leave is what the step leaves.
use Rattle.std.proofs.Common.{◌≡◌, ◌∙◌, ap, refl, sym, ℕ, ℤ, true, List, [], ◌∷◌, drop, Option, Some, None}
use Rattle.std.proofs.lemmas.Bool.{false≢true}
use Rattle.std.specs.Prelude.{option_and_then, option_map, slice_get}
use Rattle.cb_frames.specs.Tops.{at_place as placed_at, changed_in, pushed, with_stack}
use Rattle.cb_insn.specs.declared.insn.Operand.{Operand}
use Rattle.cb_kinds.specs.declared.basic.Basic.{Basic}
use Rattle.cb_link.specs.Slots.{static_basic}
use Rattle.cb_link.specs.declared.named.Named.TheVariants as meanings
use Rattle.cb_machine.specs.Branching.{switches, target_for}
use Rattle.cb_machine.specs.Calling.{returns}
use Rattle.cb_machine.specs.Computing.{loads_constant, loads_null}
use Rattle.cb_machine.specs.Fields.{gets_static_field, puts_static_field}
use Rattle.cb_machine.specs.Plans.{leaving}
use Rattle.cb_machine.specs.Standing.{Now, goes_to, leaves_with, named_here, taken}
use Rattle.cb_machine.specs.Values.{kept_value, null, sort_of_basic}
use Rattle.cb_plain.specs.declared.class_state.ClassState.{ClassState}
use Rattle.cb_plain.specs.declared.class_state.ClassState.TheVariants as states
use Rattle.cb_plain.specs.declared.value.Value.{Value}
use Rattle.cb_plain.specs.declared.value.Value.TheVariants as values
use Rattle.cb_plain.specs.Roots as roots
use Rattle.cb_plain.specs.State.{Frame}
use Rattle.cb_plain.specs.Updates.{with_frames, with_roots, with_static}
use Rattle.cb_shapes.specs.declared.sort.Sort.{Sort}
use Rattle.cb_shapes.specs.declared.sort.Sort.TheVariants as sorts
use Rattle.cb_act.specs.Effects.{stacked}
use Rattle.cb_act.specs.Going.{asked_by, behind_get_static, behind_put_static, behind_return, behind_switch, is_ready, returned, returned_to, set_static, switched}
use Rattle.cb_act.specs.Steps.{StandsBefore, goes_as, returns_as, steps_to}
use Rattle.cb_act.proofs.Leaving.{goes_so, pushed_so, stack_is}

module _ (now : Now) (pc : ℕ) (stands : StandsBefore now pc) where
  -- constants
  pub null_so : loads_null now ≡ steps_to now pc (Some (pushed now.state.roots null))
  null_so = pushed_so now pc stands null

  pub whole_so : (value : Value) → named_here now ≡ meanings.Whole value → loads_constant now ≡ steps_to now pc (Some (pushed now.state.roots value))
  whole_so value names = rw names (pushed_so now pc stands value)

  -- static fields of a class that may be used
  pub gets_static_so : (class slot : ℕ) → named_here now ≡ meanings.Static class slot → is_ready (slice_get now.state.roots.classes class) ≡ true
      → gets_static_field now ≡ steps_to now pc (behind_get_static slot now.state.roots)
  gets_static_so class slot names ready = go (slice_get now.state.roots.classes class) refl ready where
    of_value : (own : ClassState) → slice_get now.state.roots.classes class ≡ Some own → is_ready (Some own) ≡ true
        → (value : Option Value) → slice_get now.state.roots.statics slot ≡ value → gets_static_field now ≡ steps_to now pc (behind_get_static slot now.state.roots)
    of_value states.Untouched is ready value there = absurd (false≢true ready)
    of_value states.Failed is ready value there = absurd (false≢true ready)
    of_value states.Busy is ready None there = rw (names, is, there) refl
    of_value states.Busy is ready (Some value) there = rw (names, is, there) (pushed_so now pc stands value)
    of_value states.Done is ready None there = rw (names, is, there) refl
    of_value states.Done is ready (Some value) there = rw (names, is, there) (pushed_so now pc stands value)

    go : (own : Option ClassState) → slice_get now.state.roots.classes class ≡ own → is_ready own ≡ true
        → gets_static_field now ≡ steps_to now pc (behind_get_static slot now.state.roots)
    go None is ready = absurd (false≢true ready)
    go (Some own) is ready = of_value own is ready (slice_get now.state.roots.statics slot) refl

  set_so : (slot : ℕ) (value : Value) (rest : List Value)
      → leaves_with now rest (leaving (with_static now.state slot value)) ≡ steps_to now pc (Some (stacked (roots.with_static now.state.roots slot value) rest))
  set_so slot value rest =
      ap (option_map (λ pc. goes_to now pc now.frame.locals rest (leaving (with_static now.state slot value)))) stands.next
      ∙ ap (λ frames. Some (leaving (with_frames (with_static now.state slot value) (changed_in (placed_at pc) (changed_in (with_stack (λ before. rest)) frames))))) (sym stands.frames)

  pub puts_static_so : (class slot : ℕ) (basic : Basic) → named_here now ≡ meanings.Static class slot → is_ready (slice_get now.state.roots.classes class) ≡ true
      → static_basic now.machine.program slot ≡ Some basic → puts_static_field now ≡ steps_to now pc (behind_put_static slot basic now.state.roots)
  puts_static_so class slot basic names ready typed =
      go (slice_get now.state.roots.classes class) refl ready
      ∙ ap (λ stack. steps_to now pc (option_and_then (set_static now.state.roots slot basic) (taken (sort_of_basic basic ∷ []) stack))) (sym (stack_is now pc stands)) where
        of_taken : (own : ClassState) → slice_get now.state.roots.classes class ≡ Some own → is_ready (Some own) ≡ true
            → (found : Option (List Value × List Value)) → taken (sort_of_basic basic ∷ []) now.frame.stack ≡ found
            → puts_static_field now ≡ steps_to now pc (option_and_then (set_static now.state.roots slot basic) (taken (sort_of_basic basic ∷ []) now.frame.stack))
        of_taken states.Untouched is ready found there = absurd (false≢true ready)
        of_taken states.Failed is ready found there = absurd (false≢true ready)
        of_taken states.Busy is ready None there = rw (names, is, typed, there) refl
        of_taken states.Busy is ready (Some ([], rest)) there = rw (names, is, typed, there) refl
        of_taken states.Busy is ready (Some (value ∷ other ∷ others, rest)) there = rw (names, is, typed, there) refl
        of_taken states.Busy is ready (Some (value ∷ [], rest)) there = rw (names, is, typed, there) (set_so slot (kept_value basic value) rest)
        of_taken states.Done is ready None there = rw (names, is, typed, there) refl
        of_taken states.Done is ready (Some ([], rest)) there = rw (names, is, typed, there) refl
        of_taken states.Done is ready (Some (value ∷ other ∷ others, rest)) there = rw (names, is, typed, there) refl
        of_taken states.Done is ready (Some (value ∷ [], rest)) there = rw (names, is, typed, there) (set_so slot (kept_value basic value) rest)

        go : (own : Option ClassState) → slice_get now.state.roots.classes class ≡ own → is_ready own ≡ true
            → puts_static_field now ≡ steps_to now pc (option_and_then (set_static now.state.roots slot basic) (taken (sort_of_basic basic ∷ []) now.frame.stack))
        go None is ready = absurd (false≢true ready)
        go (Some own) is ready = of_taken own is ready (taken (sort_of_basic basic ∷ []) now.frame.stack) refl

  -- switches
  pub switches_so : (operand : Operand) → switches now operand ≡ goes_as now (behind_switch operand now.state.roots)
  switches_so operand =
      go (taken (sorts.Int ∷ []) now.frame.stack) refl
      ∙ ap (λ stack. goes_as now (option_and_then (switched now.state.roots operand) (taken (sorts.Int ∷ []) stack))) (sym (stack_is now pc stands)) where
        of_key : (key : ℤ) (rest : List Value) → taken (sorts.Int ∷ []) now.frame.stack ≡ Some (values.Int key ∷ [], rest)
            → (target : Option ℕ) → target_for operand key ≡ target
            → switches now operand ≡ goes_as now (option_and_then (switched now.state.roots operand) (taken (sorts.Int ∷ []) now.frame.stack))
        of_key key rest there None is = rw (there, is) refl
        of_key key rest there (Some target) is = rw (there, is) (goes_so now pc stands target rest)

        go : (found : Option (List Value × List Value)) → taken (sorts.Int ∷ []) now.frame.stack ≡ found
            → switches now operand ≡ goes_as now (option_and_then (switched now.state.roots operand) (taken (sorts.Int ∷ []) now.frame.stack))
        go None there = rw there refl
        go (Some ([], rest)) there = rw there refl
        go (Some (values.Long n ∷ others, rest)) there = rw there refl
        go (Some (values.Ref n ∷ others, rest)) there = rw there refl
        go (Some (values.Int key ∷ other ∷ others, rest)) there = rw there refl
        go (Some (values.Int key ∷ [], rest)) there = of_key key rest there (target_for operand key) refl

  -- returns
  pub returns_so : (sort : Option Sort) → returns now sort ≡ returns_as now (behind_return now.machine.program sort now.state.roots)
  returns_so sort =
      go (taken (asked_by sort) now.frame.stack) refl
      ∙ ap (λ stack. returns_as now (option_and_then (returned now.machine.program now.state.roots) (taken (asked_by sort) stack))) (sym (stack_is now pc stands)) where
        same : (answer : Option (List Frame))
            → option_map (λ frames. leaving (with_frames now.state frames)) answer
            ≡ option_map (λ left. leaving (with_roots now.state left)) (option_map (roots.with_frames now.state.roots) answer)
        same None = refl
        same (Some frames) = refl

        go : (found : Option (List Value × List Value)) → taken (asked_by sort) now.frame.stack ≡ found
            → returns now sort ≡ returns_as now (option_and_then (returned now.machine.program now.state.roots) (taken (asked_by sort) now.frame.stack))
        go None there = rw there refl
        go (Some answer) there =
            rw there
            (same (returned_to now.machine.program answer.0 now.below)
            ∙ ap (λ frames. returns_as now (option_map (roots.with_frames now.state.roots) (returned_to now.machine.program answer.0 (drop 1 frames)))) (sym stands.frames))
