-- What effects leave is what the step leaves.
use Rattle.std.proofs.Common.{◌≡◌, ◌∙◌, ap, refl, sym, ℕ, ℤ, ◌+◌, ◌+ℤ◌, Bool, true, false, List, [], ◌∷◌, ◌++◌, map, Option, Some, None, drop, length, nat_le}
use Rattle.std.specs.Prelude.{option_and_then, option_map, slice_get, slice_set}
use Rattle.std.specs.Int.{int_wrap, w32}
use Rattle.cb_insn.specs.declared.insn.Operand.TheVariants as operands_of
use Rattle.cb_frames.specs.Tops.{at_place as placed_at, changed_in, locals_in, on_top, stack_in, pushed, top_locals, top_stack, with_locals, with_stack, with_top, without}
use Rattle.cb_machine.specs.Branching.{branches, holds}
use Rattle.cb_machine.specs.Computing.{computes, shuffles}
use Rattle.cb_machine.specs.Locals.{increases, loads, stores, with_slots}
use Rattle.cb_machine.specs.Plans.{Plan, leaving}
use Rattle.cb_machine.specs.Standing.{Now, goes_on, goes_to, leaves, same_sort, taken}
use Rattle.cb_machine.specs.Values.{category_of_value, numbers_of, of_sort, sort_of}
use Rattle.cb_plain.specs.Depth.{slots_of}
use Rattle.cb_plain.specs.declared.value.Value.{Value}
use Rattle.cb_plain.specs.declared.value.Value.TheVariants as values
use Rattle.cb_plain.specs.Updates.{with_frames}
use Rattle.cb_shapes.specs.Computations.{Computed, ByZero, Gives, computed, gives, takes}
use Rattle.cb_shapes.specs.Conditions.{takes as tested}
use Rattle.cb_shapes.specs.Shuffles.{shuffled}
use Rattle.cb_shapes.specs.declared.computation.Computation.{Computation}
use Rattle.cb_shapes.specs.declared.shuffle.Shuffle.{Shuffle}
use Rattle.cb_shapes.specs.declared.sort.Sort.{Sort}
use Rattle.cb_shapes.specs.declared.test.Condition.{Condition}
use Rattle.cb_act.specs.Effects.{behind as behind_of, behind_computation, behind_increase, behind_load, behind_shuffle, behind_store, behind_test, computed_on, gave, increased, is_given, loaded, stacked, stored, tested_on, told}
use Rattle.cb_act.specs.Steps.{StandsBefore, computes_to, steps_to, tests_to}

module _ (now : Now) (pc : ℕ) (stands : StandsBefore now pc) where
  pub stack_is : top_stack now.state.roots ≡ now.frame.stack
  stack_is = ap (on_top [] stack_in) stands.frames

  locals_are : top_locals now.state.roots ≡ now.frame.locals
  locals_are = ap (on_top [] locals_in) stands.frames

  -- with another stack, on at the next place or elsewhere
  pub leaves_so : (stack : List Value) → leaves now stack ≡ steps_to now pc (Some (stacked now.state.roots stack))
  leaves_so stack =
      ap (option_map (λ pc. goes_to now pc now.frame.locals stack (leaving now.state))) stands.next
      ∙ ap (λ frames. Some (leaving (with_frames now.state (changed_in (placed_at pc) (changed_in (with_stack (λ before. stack)) frames))))) (sym stands.frames)

  pub goes_so : (target : ℕ) (stack : List Value) → Some (goes_to now target now.frame.locals stack (leaving now.state)) ≡ steps_to now target (Some (stacked now.state.roots stack))
  goes_so target stack =
      ap (λ frames. Some (leaving (with_frames now.state (changed_in (placed_at target) (changed_in (with_stack (λ before. stack)) frames))))) (sym stands.frames)

  pub pushed_so : (value : Value) → leaves now (value ∷ now.frame.stack) ≡ steps_to now pc (Some (pushed now.state.roots value))
  pushed_so value =
      ap (option_map (λ pc. goes_to now pc now.frame.locals (value ∷ now.frame.stack) (leaving now.state))) stands.next
      ∙ ap (λ frames. Some (leaving (with_frames now.state (changed_in (placed_at pc) (changed_in (with_stack (λ stack. value ∷ stack)) frames))))) (sym stands.frames)

  -- with other local variables, and without the topmost value too
  changed_so : (change : List Value → List Value)
      → goes_on now (change now.frame.locals) now.frame.stack (leaving now.state) ≡ steps_to now pc (Some (with_top now.state.roots (with_locals change)))
  changed_so change =
      ap (option_map (λ pc. goes_to now pc (change now.frame.locals) now.frame.stack (leaving now.state))) stands.next
      ∙ ap (λ frames. Some (leaving (with_frames now.state (changed_in (placed_at pc) (changed_in (with_locals change) frames))))) (sym stands.frames)

  taken_so : (change : List Value → List Value) (rest : List Value) → drop 1 now.frame.stack ≡ rest
      → goes_on now (change now.frame.locals) rest (leaving now.state) ≡ steps_to now pc (Some (with_top (without now.state.roots 1) (with_locals change)))
  taken_so change rest is =
      ap (λ stack. goes_on now (change now.frame.locals) stack (leaving now.state)) (sym is)
      ∙ ap (option_map (λ pc. goes_to now pc (change now.frame.locals) (drop 1 now.frame.stack) (leaving now.state))) stands.next
      ∙ ap (λ frames. Some (leaving (with_frames now.state (changed_in (placed_at pc) (changed_in (with_locals change) (changed_in (with_stack (λ stack. drop 1 stack)) frames)))))) (sym stands.frames)

  pub loads_so : (sort : Sort) (local : ℕ) → loads now sort local ≡ steps_to now pc (behind_load sort local now.state.roots)
  loads_so sort local = go (slice_get now.frame.locals local) refl ∙ ap (λ locals. steps_to now pc (loaded now.state.roots sort (slice_get locals local))) (sym locals_are) where
    by_sort : (value : Value) → slice_get now.frame.locals local ≡ Some value → (same : Bool) → same_sort (sort_of value) sort ≡ same
        → loads now sort local ≡ steps_to now pc (loaded now.state.roots sort (slice_get now.frame.locals local))
    by_sort value is false same = rw (is, same) refl
    by_sort value is true same = rw (is, same) (pushed_so value)

    go : (found : Option Value) → slice_get now.frame.locals local ≡ found → loads now sort local ≡ steps_to now pc (loaded now.state.roots sort (slice_get now.frame.locals local))
    go None is = rw is refl
    go (Some value) is = by_sort value is (same_sort (sort_of value) sort) refl

  pub increases_so : (local : ℕ) (by : ℤ) → increases now local by ≡ steps_to now pc (behind_increase local by now.state.roots)
  increases_so local by = go (slice_get now.frame.locals local) refl ∙ ap (λ locals. steps_to now pc (increased now.state.roots local by (slice_get locals local))) (sym locals_are) where
    go : (found : Option Value) → slice_get now.frame.locals local ≡ found → increases now local by ≡ steps_to now pc (increased now.state.roots local by (slice_get now.frame.locals local))
    go None is = rw is refl
    go (Some (values.Int number)) is = let more : Value = values.Int (int_wrap w32 (number +ℤ by)) in rw is (changed_so (λ locals. slice_set locals local more))
    go (Some (values.Long number)) is = rw is refl
    go (Some (values.Ref serial)) is = rw is refl

  pub stores_so : (sort : Sort) (local : ℕ) → stores now sort local ≡ steps_to now pc (behind_store sort local now.state.roots)
  stores_so sort local = go now.frame.stack refl ∙ ap (λ stack. steps_to now pc (stored now.state.roots sort local (slice_get stack 0))) (sym stack_is) where
    by_room : (value : Value) (rest : List Value) → now.frame.stack ≡ value ∷ rest → same_sort (sort_of value) sort ≡ true
        → (low : Bool) → nat_le (local + length (slots_of value)) (length now.frame.locals) ≡ low → nat_le (local + length (slots_of value)) (length (top_locals now.state.roots)) ≡ low
        → stores now sort local ≡ steps_to now pc (stored now.state.roots sort local (slice_get now.frame.stack 0))
    by_room value rest is same false low also = rw (is, same, low, also) refl
    by_room value rest is same true low also = rw (is, same, low, also) (taken_so (λ locals. with_slots locals local (slots_of value)) rest (ap (drop 1) is))

    by_sort : (value : Value) (rest : List Value) → now.frame.stack ≡ value ∷ rest → (same : Bool) → same_sort (sort_of value) sort ≡ same
        → stores now sort local ≡ steps_to now pc (stored now.state.roots sort local (slice_get now.frame.stack 0))
    by_sort value rest is false same = rw (is, same) refl
    by_sort value rest is true same =
        by_room value rest is same (nat_le (local + length (slots_of value)) (length now.frame.locals)) refl
        (ap (λ (locals : List Value). nat_le (local + length (slots_of value)) (length locals)) locals_are)

    go : (stack : List Value) → now.frame.stack ≡ stack → stores now sort local ≡ steps_to now pc (stored now.state.roots sort local (slice_get now.frame.stack 0))
    go [] is = rw is refl
    go (value ∷ rest) is = by_sort value rest is (same_sort (sort_of value) sort) refl

  pub shuffles_so : (shuffle : Shuffle) → shuffles now shuffle ≡ steps_to now pc (behind_shuffle shuffle now.state.roots)
  shuffles_so shuffle =
      go (shuffled category_of_value shuffle now.frame.stack) refl
      ∙ ap (λ stack. steps_to now pc (option_map (stacked now.state.roots) (shuffled category_of_value shuffle stack))) (sym stack_is) where
        go : (found : Option (List Value)) → shuffled category_of_value shuffle now.frame.stack ≡ found
            → shuffles now shuffle ≡ steps_to now pc (option_map (stacked now.state.roots) (shuffled category_of_value shuffle now.frame.stack))
        go None is = rw is refl
        go (Some stack) is = rw is (leaves_so stack)

  pub computes_so : (computation : Computation) → computes now computation ≡ computes_to now pc (gave computation now.state.roots) (behind_computation computation now.state.roots)
  computes_so computation = go (taken (takes computation) now.frame.stack) refl ∙ ap of (sym stack_is) where
    of : List Value → Option Plan
    of stack = computes_to now pc (option_map is_given (computed_on computation stack)) (option_map (behind_of now.state.roots (gives computation)) (computed_on computation stack))

    given : (operands : List Value × List Value) → taken (takes computation) now.frame.stack ≡ Some operands
        → (numbers : List ℤ) → option_and_then (computed computation) (numbers_of operands.0) ≡ Some (Gives numbers) → (sort : Option Sort) → gives computation ≡ sort
        → computes now computation ≡ of now.frame.stack
    given operands there numbers so None sorted = rw (there, so, sorted) (leaves_so operands.1)
    given operands there numbers so (Some sort) sorted = rw (there, so, sorted) (leaves_so (map (of_sort sort) numbers ++ operands.1))

    with_found : (operands : List Value × List Value) → taken (takes computation) now.frame.stack ≡ Some operands
        → (found : Option Computed) → option_and_then (computed computation) (numbers_of operands.0) ≡ found → computes now computation ≡ of now.frame.stack
    with_found operands there None so = rw (there, so) refl
    with_found operands there (Some ByZero) so = rw (there, so) refl
    with_found operands there (Some (Gives numbers)) so = given operands there numbers so (gives computation) refl

    go : (found : Option (List Value × List Value)) → taken (takes computation) now.frame.stack ≡ found → computes now computation ≡ of now.frame.stack
    go None there = rw there refl
    go (Some operands) there = with_found operands there (option_and_then (computed computation) (numbers_of operands.0)) refl

  pub tests_so : (condition : Condition) (target : ℕ)
      → branches now condition (operands_of.Branch target) ≡ tests_to now pc target (told condition now.state.roots) (behind_test condition now.state.roots)
  tests_so condition target = go (taken (tested condition) now.frame.stack) refl ∙ ap of (sym stack_is) where
    of : List Value → Option Plan
    of stack = tests_to now pc target (option_map (λ (told : Bool × List Value). told.0) (tested_on condition stack)) (option_map (λ (told : Bool × List Value). stacked now.state.roots told.1) (tested_on condition stack))

    with_answer : (operands : List Value × List Value) → taken (tested condition) now.frame.stack ≡ Some operands → (found : Option Bool) → holds condition operands.0 ≡ found
        → branches now condition (operands_of.Branch target) ≡ of now.frame.stack
    with_answer operands there None so = rw (there, so) refl
    with_answer operands there (Some true) so = rw (there, so) (goes_so target operands.1)
    with_answer operands there (Some false) so = rw (there, so) (leaves_so operands.1)

    go : (found : Option (List Value × List Value)) → taken (tested condition) now.frame.stack ≡ found → branches now condition (operands_of.Branch target) ≡ of now.frame.stack
    go None there = rw there refl
    go (Some operands) there = with_answer operands there (holds condition operands.0) refl
