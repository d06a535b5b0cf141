-- Steps that look at frames alone, of a state of which only some objects are kept.
use Rattle.std.proofs.Common.{◌≡◌, ◌∙◌, ap, refl, ℕ, ℤ, ◌+◌, ◌+ℤ◌, Bool, true, false, List, [], ◌∷◌, ◌++◌, length, map, nat_le, Option, Some, None}
use Rattle.std.specs.Prelude.{option_and_then, option_map, slice_get, slice_set}
use Rattle.std.specs.Int.{int_wrap, w32}
use Rattle.cb_insn.specs.declared.insn.Operand.{Operand}
use Rattle.cb_insn.specs.declared.insn.Operand.TheVariants as operands_of
use Rattle.cb_link.specs.declared.named.Named.{Named}
use Rattle.cb_link.specs.declared.named.Named.TheVariants as meanings
use Rattle.cb_machine.specs.Branching.{branches, holds, switches, target_for}
use Rattle.cb_machine.specs.Calling.{returns}
use Rattle.cb_machine.specs.Computing.{computes, loads_constant, loads_null, shuffles}
use Rattle.cb_machine.specs.Locals.{increases, loads, stores, with_slots}
use Rattle.cb_machine.specs.Plans.{Plan, leaving}
use Rattle.cb_machine.specs.Standing.{Now, goes_to, leaves, leaves_with, named_here, same_sort, taken}
use Rattle.cb_machine.specs.Strings.{Placed, class_object, constant_string}
use Rattle.cb_machine.specs.Values.{category_of_value, null, numbers_of, of_sort, sort_of}
use Rattle.cb_plain.specs.Depth.{slots_of}
use Rattle.cb_plain.specs.declared.value.Value.{Value}
use Rattle.cb_plain.specs.declared.value.Value.TheVariants as values
use Rattle.cb_plain.specs.State.{Frame}
use Rattle.cb_plain.specs.Updates.{with_frames}
use Rattle.cb_shapes.specs.Computations.{Computed, ByZero, Gives, computed, gives, takes}
use Rattle.cb_shapes.specs.Conditions.{takes as tested}
use Rattle.cb_shapes.specs.Shuffles.{shuffled}
use Rattle.cb_shapes.specs.declared.computation.Computation.{Computation}
use Rattle.cb_shapes.specs.declared.shuffle.Shuffle.{Shuffle}
use Rattle.cb_shapes.specs.declared.sort.Sort.{Sort}
use Rattle.cb_shapes.specs.declared.sort.Sort.TheVariants as sorts
use Rattle.cb_shapes.specs.declared.test.Condition.{Condition}
use Rattle.cb_act.specs.Going.{asked_by, returned_to}
use Rattle.cb_act.specs.Changing.{Change, Changes, changed_now, changed_plan, changed_state}
use Rattle.cb_act.proofs.KeptGoing.{by_zero_kept, class_kept, constant_kept, goes_on_kept, leaves_from, leaving_kept}

module _ (change : Change) (now : Now) (same : length (change now.state.objects) ≡ length now.state.objects) where
  pub leaves_kept : (stack : List Value) → Changes change now (λ now. leaves now stack)
  leaves_kept stack = leaves_from change now.state same now now.frame.locals stack

  goes_kept : (target : ℕ) (stack : List Value)
      → goes_to (changed_now change now) target now.frame.locals stack (leaving (changed_state change now.state))
      ≡ changed_plan change (goes_to now target now.frame.locals stack (leaving now.state))
  goes_kept target stack = ap (goes_to (changed_now change now) target now.frame.locals stack) (leaving_kept change now.state same)

  -- numbers and constants
  pub computes_kept : (computation : Computation) → Changes change now (λ now. computes now computation)
  computes_kept computation = go (taken (takes computation) now.frame.stack) refl where
    given : (operands : List Value × List Value) → taken (takes computation) now.frame.stack ≡ Some operands
        → (numbers : List ℤ) → option_and_then (computed computation) (numbers_of operands.0) ≡ Some (Gives numbers) → (sort : Option Sort) → gives computation ≡ sort
        → Changes change now (λ now. computes now computation)
    given operands there numbers so None sorted = rw (there, so, sorted) (leaves_kept operands.1)
    given operands there numbers so (Some sort) sorted = rw (there, so, sorted) (leaves_kept (map (of_sort sort) numbers ++ operands.1))

    with_found : (operands : List Value × List Value) → taken (takes computation) now.frame.stack ≡ Some operands
        → (found : Option Computed) → option_and_then (computed computation) (numbers_of operands.0) ≡ found → Changes change now (λ now. computes now computation)
    with_found operands there None so = rw (there, so) refl
    with_found operands there (Some ByZero) so = rw (there, so) (ap Some (by_zero_kept change now.state same now.machine))
    with_found operands there (Some (Gives numbers)) so = given operands there numbers so (gives computation) refl

    go : (found : Option (List Value × List Value)) → taken (takes computation) now.frame.stack ≡ found → Changes change now (λ now. computes now computation)
    go None there = rw there refl
    go (Some operands) there = with_found operands there (option_and_then (computed computation) (numbers_of operands.0)) refl

  pub null_kept : Changes change now loads_null
  null_kept = leaves_kept (null ∷ now.frame.stack)

  lays_kept : (placed : Placed)
      → leaves_with (changed_now change now) (values.Ref placed.serial ∷ now.frame.stack) (changed_plan change placed.plan)
      ≡ option_map (changed_plan change) (leaves_with now (values.Ref placed.serial ∷ now.frame.stack) placed.plan)
  lays_kept placed = goes_on_kept change now now.frame.locals (values.Ref placed.serial ∷ now.frame.stack) placed.plan

  pub constant_loaded_kept : Changes change now loads_constant
  constant_loaded_kept = go (named_here now) refl where
    lays : Placed → Option Plan
    lays placed = leaves_with (changed_now change now) (values.Ref placed.serial ∷ now.frame.stack) placed.plan

    go : (named : Named) → named_here now ≡ named → Changes change now loads_constant
    go meanings.Nothing is = rw is refl
    go (meanings.Kind kind) is =
        rw is
        (ap (λ plan. lays (class_object now.machine kind plan)) (leaving_kept change now.state same)
        ∙ ap lays (class_kept change now.machine kind (leaving now.state))
        ∙ lays_kept (class_object now.machine kind (leaving now.state)))
    go (meanings.Static class slot) is = rw is refl
    go (meanings.Field class slot) is = rw is refl
    go (meanings.Method method) is = rw is refl
    go (meanings.Text text) is =
        rw is
        (ap (λ plan. lays (constant_string now.machine text plan)) (leaving_kept change now.state same)
        ∙ ap lays (constant_kept change now.machine text (leaving now.state))
        ∙ lays_kept (constant_string now.machine text (leaving now.state)))
    go (meanings.Whole value) is = rw is (leaves_kept (value ∷ now.frame.stack))

  -- local variables and the stack
  pub loads_kept : (sort : Sort) (local : ℕ) → Changes change now (λ now. loads now sort local)
  loads_kept sort local = go (slice_get now.frame.locals local) refl where
    by_sort : (value : Value) → slice_get now.frame.locals local ≡ Some value → (is : Bool) → same_sort (sort_of value) sort ≡ is → Changes change now (λ now. loads now sort local)
    by_sort value there false is = rw (there, is) refl
    by_sort value there true is = rw (there, is) (leaves_kept (value ∷ now.frame.stack))

    go : (found : Option Value) → slice_get now.frame.locals local ≡ found → Changes change now (λ now. loads now sort local)
    go None there = rw there refl
    go (Some value) there = by_sort value there (same_sort (sort_of value) sort) refl

  pub increases_kept : (local : ℕ) (by : ℤ) → Changes change now (λ now. increases now local by)
  increases_kept local by = go (slice_get now.frame.locals local) refl where
    go : (found : Option Value) → slice_get now.frame.locals local ≡ found → Changes change now (λ now. increases now local by)
    go None there = rw there refl
    go (Some (values.Int number)) there =
        rw there (leaves_from change now.state same now (slice_set now.frame.locals local (values.Int (int_wrap w32 (number +ℤ by)))) now.frame.stack)
    go (Some (values.Long number)) there = rw there refl
    go (Some (values.Ref serial)) there = rw there refl

  pub stores_kept : (sort : Sort) (local : ℕ) → Changes change now (λ now. stores now sort local)
  stores_kept sort local = go (taken (sort ∷ []) now.frame.stack) refl where
    by_room : (value : Value) (rest : List Value) → taken (sort ∷ []) now.frame.stack ≡ Some (value ∷ [], rest)
        → (low : Bool) → nat_le (local + length (slots_of value)) (length now.frame.locals) ≡ low → Changes change now (λ now. stores now sort local)
    by_room value rest there false low = rw (there, low) refl
    by_room value rest there true low = rw (there, low) (leaves_from change now.state same now (with_slots now.frame.locals local (slots_of value)) rest)

    go : (found : Option (List Value × List Value)) → taken (sort ∷ []) now.frame.stack ≡ found → Changes change now (λ now. stores now sort local)
    go None there = rw there refl
    go (Some ([], rest)) there = rw there refl
    go (Some (value ∷ other ∷ others, rest)) there = rw there refl
    go (Some (value ∷ [], rest)) there = by_room value rest there (nat_le (local + length (slots_of value)) (length now.frame.locals)) refl

  pub shuffles_kept : (shuffle : Shuffle) → Changes change now (λ now. shuffles now shuffle)
  shuffles_kept shuffle = go (shuffled category_of_value shuffle now.frame.stack) refl where
    go : (found : Option (List Value)) → shuffled category_of_value shuffle now.frame.stack ≡ found → Changes change now (λ now. shuffles now shuffle)
    go None is = rw is refl
    go (Some stack) is = rw is (leaves_kept stack)

  -- branches, switches and returns
  pub branches_kept : (condition : Condition) (operand : Operand) → Changes change now (λ now. branches now condition operand)
  branches_kept condition (operands_of.Branch target) = go (taken (tested condition) now.frame.stack) refl where
    with_answer : (operands : List Value × List Value) → taken (tested condition) now.frame.stack ≡ Some operands → (found : Option Bool) → holds condition operands.0 ≡ found
        → Changes change now (λ now. branches now condition (operands_of.Branch target))
    with_answer operands there None so = rw (there, so) refl
    with_answer operands there (Some true) so = rw (there, so) (ap Some (goes_kept target operands.1))
    with_answer operands there (Some false) so = rw (there, so) (leaves_kept operands.1)

    go : (found : Option (List Value × List Value)) → taken (tested condition) now.frame.stack ≡ found → Changes change now (λ now. branches now condition (operands_of.Branch target))
    go None there = rw there refl
    go (Some operands) there = with_answer operands there (holds condition operands.0) refl
  branches_kept condition operands_of.Nothing = refl
  branches_kept condition (operands_of.Number number) = refl
  branches_kept condition (operands_of.Pool index) = refl
  branches_kept condition (operands_of.Local local) = refl
  branches_kept condition (operands_of.Increase local by) = refl
  branches_kept condition (operands_of.ArrayCode code) = refl
  branches_kept condition (operands_of.Dimensions pool dimensions) = refl
  branches_kept condition (operands_of.Interface pool count) = refl
  branches_kept condition (operands_of.Table default low targets) = refl
  branches_kept condition (operands_of.Lookup default pairs) = refl

  pub switches_kept : (operand : Operand) → Changes change now (λ now. switches now operand)
  switches_kept operand = go (taken (sorts.Int ∷ []) now.frame.stack) refl where
    of_key : (key : ℤ) (rest : List Value) → taken (sorts.Int ∷ []) now.frame.stack ≡ Some (values.Int key ∷ [], rest)
        → (target : Option ℕ) → target_for operand key ≡ target → Changes change now (λ now. switches now operand)
    of_key key rest there None is = rw (there, is) refl
    of_key key rest there (Some target) is = rw (there, is) (ap Some (goes_kept target rest))

    go : (found : Option (List Value × List Value)) → taken (sorts.Int ∷ []) now.frame.stack ≡ found → Changes change now (λ now. switches now operand)
    go None there = rw there refl
    go (Some ([], rest)) there = rw there refl
    go (Some (values.Long n ∷ others, rest)) there = rw there refl
    go (Some (values.Ref n ∷ others, rest)) there = rw there refl
    go (Some (values.Int key ∷ other ∷ others, rest)) there = rw there refl
    go (Some (values.Int key ∷ [], rest)) there = of_key key rest there (target_for operand key) refl

  pub returns_kept : (sort : Option Sort) → Changes change now (λ now. returns now sort)
  returns_kept sort = go (taken (asked_by sort) now.frame.stack) refl where
    same_frames : (answer : Option (List Frame))
        → option_map (λ frames. leaving (with_frames (changed_state change now.state) frames)) answer
        ≡ option_map (changed_plan change) (option_map (λ frames. leaving (with_frames now.state frames)) answer)
    same_frames None = refl
    same_frames (Some frames) = ap Some (leaving_kept change (with_frames now.state frames) same)

    go : (found : Option (List Value × List Value)) → taken (asked_by sort) now.frame.stack ≡ found → Changes change now (λ now. returns now sort)
    go None there = rw there refl
    go (Some answer) there = rw there (same_frames (returned_to now.machine.program answer.0 now.below))
