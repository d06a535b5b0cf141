-- References pass in steps that look at frames alone.
use Rattle.std.proofs.Common.{◌≡◌, ◌∙◌, ap, refl, sym, subst, ℕ, ℤ, ◌+◌, ◌+ℤ◌, Bool, true, false, List, [], ◌∷◌, ◌++◌, length, map, nat_le, Option, Some, None}
use Rattle.std.specs.Prelude.{option_and_then, option_map, slice_get, slice_set}
use Rattle.std.specs.Int.{int_wrap, w32}
use Rattle.std.specs.List.{flat_map, list_all}
use Rattle.std.proofs.lemmas.Option.{same_Some}
use Rattle.cb_insn.specs.declared.insn.Operand.{Operand}
use Rattle.cb_insn.specs.declared.insn.Operand.TheVariants as operands_of
use Rattle.cb_link.specs.Named.{behind_in, code_at}
use Rattle.cb_link.specs.Program.{Linked}
use Rattle.cb_link.specs.declared.named.Named.{Named}
use Rattle.cb_link.specs.declared.named.Named.TheVariants as meanings
use Rattle.cb_machine.specs.Branching.{branches, holds, switches, target_for}
use Rattle.cb_machine.specs.Calling.{answered, returns}
use Rattle.cb_machine.specs.Computing.{computes, divide_message, loads_constant, loads_null, shuffles, throws_by_zero}
use Rattle.cb_machine.specs.Locals.{increases, loads, stores, with_slots}
use Rattle.cb_machine.specs.Plans.{leaving}
use Rattle.cb_machine.specs.Sites.{arithmetic}
use Rattle.cb_machine.specs.Standing.{Now, at_place, goes_to, leaves_with, named_here, same_sort, taken}
use Rattle.cb_machine.specs.Strings.{Placed, class_object, constant_string}
use Rattle.cb_machine.specs.Values.{category_of_value, null, numbers_of, of_sort, sort_of}
use Rattle.cb_plain.specs.Depth.{slots_of}
use Rattle.cb_plain.specs.declared.value.Value.{Value}
use Rattle.cb_plain.specs.declared.value.Value.TheVariants as values
use Rattle.cb_plain.specs.Reach.{frame_references, reference_in, references_in, unless_null}
use Rattle.cb_plain.specs.State.{Frame, Initialising, MethodFrame, OfMethod}
use Rattle.cb_shapes.specs.Computations.{Computed, ByZero, Gives, computed, gives, takes}
use Rattle.cb_shapes.specs.Conditions.{takes as tested}
use Rattle.cb_shapes.specs.Shuffles.{shuffled}
use Rattle.cb_shapes.specs.Sorts.{category_of}
use Rattle.cb_shapes.specs.declared.computation.Computation.{Computation}
use Rattle.cb_shapes.specs.declared.shuffle.Shuffle.{Shuffle}
use Rattle.cb_shapes.specs.declared.sort.Sort.{Sort}
use Rattle.cb_shapes.specs.declared.sort.Sort.TheVariants as sorts
use Rattle.cb_shapes.specs.declared.test.Condition.{Condition}
use Rattle.cb_act.specs.Going.{asked_by, returned_to}
use Rattle.cb_act.specs.Within.{HasNumbers, IsPlanWithin, Pass, Within, WithinHere}
use Rattle.cb_act.proofs.KeptObjects.{parts}
use Rattle.cb_act.proofs.Moved.{shuffled_mapped}
use Rattle.cb_act.proofs.WithinBasics.{both, along, class_within, constant_within, framed, goes_on_within, goes_within, item_passes, leaves_within, left_within, pushes_within, set_passes, taken_passes, throwing_within}

module _ (ok : ℕ → Bool) where
  -- numbers are no references
  number_passes : (sort : Sort) (number : ℤ) → Pass ok (reference_in (of_sort sort number))
  number_passes sorts.Int number = refl
  number_passes sorts.Long number = refl
  number_passes sorts.Reference number = refl

  numbers_pass : (sort : Sort) (numbers : List ℤ) → Pass ok (references_in (map (of_sort sort) numbers))
  numbers_pass sort [] = refl
  numbers_pass sort (number ∷ numbers) = both ok (reference_in (of_sort sort number)) (references_in (map (of_sort sort) numbers)) (number_passes sort number) (numbers_pass sort numbers)

  pub slots_pass : (value : Value) → Pass ok (reference_in value) → Pass ok (references_in (slots_of value))
  slots_pass (values.Int number) pass = refl
  slots_pass (values.Long number) pass = refl
  slots_pass (values.Ref serial) pass = both ok (unless_null serial) [] pass refl

  pub with_slots_pass : (locals : List Value) (local : ℕ) (held : List Value) → Pass ok (references_in locals) → Pass ok (references_in held) → Pass ok (references_in (with_slots locals local held))
  with_slots_pass locals local [] first second = first
  with_slots_pass locals local (value ∷ held) first second =
      let own = parts ok (reference_in value) (references_in held) second in
      with_slots_pass (slice_set locals local value) (local + 1) held (set_passes ok reference_in locals local value first own.0) own.1

  -- what is moved on the stack was there: with null for all that doesn't pass it is the same
  abbrev or_null : Bool → Value → Value
  or_null true value = value
  or_null false value = null

  abbrev passing : Value → Value
  passing value = or_null (list_all ok (reference_in value)) value

  same_category : (value : Value) → category_of (sort_of (passing value)) ≡ category_of (sort_of value)
  same_category (values.Int number) = refl
  same_category (values.Long number) = refl
  same_category (values.Ref serial) = go (list_all ok (unless_null serial)) where
    go : (is : Bool) → category_of (sort_of (or_null is (values.Ref serial))) ≡ category_of (sort_of (values.Ref serial))
    go true = refl
    go false = refl

  all_passing : (held : List Value) → Pass ok (references_in held) → map passing held ≡ held
  all_passing [] all = refl
  all_passing (value ∷ held) all =
      let own = parts ok (reference_in value) (references_in held) all in
      ap (λ is. or_null is value ∷ map passing held) own.0 ∙ ap (λ rest. value ∷ rest) (all_passing held own.1)

  passing_passes : (value : Value) → Pass ok (reference_in (passing value))
  passing_passes value = go (list_all ok (reference_in value)) refl where
    go : (is : Bool) → list_all ok (reference_in value) ≡ is → Pass ok (reference_in (or_null is value))
    go true is = is
    go false is = refl

  passing_all : (held : List Value) → Pass ok (references_in (map passing held))
  passing_all [] = refl
  passing_all (value ∷ held) = both ok (reference_in (passing value)) (references_in (map passing held)) (passing_passes value) (passing_all held)

  shuffled_passes : (shuffle : Shuffle) (stack after : List Value) → Pass ok (references_in stack) → shuffled category_of_value shuffle stack ≡ Some after → Pass ok (references_in after)
  shuffled_passes shuffle stack after all is =
      let mapped = shuffled_mapped passing (λ value. category_of (sort_of value)) (λ value. category_of (sort_of value)) same_category shuffle stack in
      let same : after ≡ map passing after =
      same_Some after (map passing after) (sym is ∙ ap (shuffled category_of_value shuffle) (sym (all_passing stack all)) ∙ mapped ∙ ap (option_map (map passing)) is) in
      subst (λ held. Pass ok (references_in held)) (sym same) (passing_all after)

  -- an answer on the stack of the frame that waits for it
  pub answers_pass : (program : Linked) (frame : MethodFrame) (answer : List Value) (after : MethodFrame) → Pass ok (references_in answer)
      → Pass ok (references_in frame.locals) × Pass ok (references_in frame.stack) → answered program frame answer ≡ Some after → Pass ok (frame_references (OfMethod after))
  answers_pass program frame answer after first own is = go (behind_in (code_at program frame.method) frame.pc) refl is where
    go : (next : Option ℕ) → behind_in (code_at program frame.method) frame.pc ≡ next → answered program frame answer ≡ Some after → Pass ok (frame_references (OfMethod after))
    go None at is =
        let none : answered program frame answer ≡ None = ap (option_map (λ pc. at_place frame pc frame.locals (answer ++ frame.stack))) at in
        absurd (cc (sym none ∙ is))
    go (Some pc) at is =
        let some : answered program frame answer ≡ Some (at_place frame pc frame.locals (answer ++ frame.stack)) =
        ap (option_map (λ pc. at_place frame pc frame.locals (answer ++ frame.stack))) at in
        subst (λ frame. Pass ok (frame_references (OfMethod frame))) (same_Some (at_place frame pc frame.locals (answer ++ frame.stack)) after (sym some ∙ is))
        (both ok (references_in frame.locals) (references_in (answer ++ frame.stack)) own.0 (along ok reference_in answer frame.stack first own.1))

  module _ (now : Now) (here : WithinHere ok now) where
    at_taken : (sorts : List Sort) (operands : List Value × List Value) → taken sorts now.frame.stack ≡ Some operands → Pass ok (references_in operands.0) × Pass ok (references_in operands.1)
    at_taken sorts operands there = taken_passes ok sorts now.frame.stack operands.0 operands.1 there here.stack

    by_zero_within : IsPlanWithin ok (throws_by_zero now.machine now.state)
    by_zero_within =
        let placed : Placed = constant_string now.machine divide_message (leaving now.state) in
        let own = constant_within ok now.machine divide_message (leaving now.state) (left_within ok now.state here.state) in
        throwing_within ok now.machine arithmetic placed.serial 0 placed.plan own.0 own.1 refl

    pub computes_within : (computation : Computation) → Within ok (computes now computation)
    computes_within computation = go (taken (takes computation) now.frame.stack) refl where
      given : (operands : List Value × List Value) → taken (takes computation) now.frame.stack ≡ Some operands
          → (numbers : List ℤ) → option_and_then (computed computation) (numbers_of operands.0) ≡ Some (Gives numbers) → (sort : Option Sort) → gives computation ≡ sort
          → Within ok (computes now computation)
      given operands there numbers so None sorted = rw (there, so, sorted) (leaves_within ok now here operands.1 (at_taken (takes computation) operands there).1)
      given operands there numbers so (Some sort) sorted =
          rw (there, so, sorted)
          (leaves_within ok now here (map (of_sort sort) numbers ++ operands.1)
          (along ok reference_in (map (of_sort sort) numbers) operands.1 (numbers_pass sort numbers) (at_taken (takes computation) operands there).1))

      with_found : (operands : List Value × List Value) → taken (takes computation) now.frame.stack ≡ Some operands
          → (found : Option Computed) → option_and_then (computed computation) (numbers_of operands.0) ≡ found → Within ok (computes now computation)
      with_found operands there None so = rw (there, so) tt
      with_found operands there (Some ByZero) so = rw (there, so) by_zero_within
      with_found operands there (Some (Gives numbers)) so = given operands there numbers so (gives computation) refl

      go : (found : Option (List Value × List Value)) → taken (takes computation) now.frame.stack ≡ found → Within ok (computes now computation)
      go None there = rw there tt
      go (Some operands) there = with_found operands there (option_and_then (computed computation) (numbers_of operands.0)) refl

    pub null_within : Within ok (loads_null now)
    null_within = pushes_within ok now here null now.frame.stack refl here.stack

    lays_within : (placed : Placed) → IsPlanWithin ok placed.plan → Pass ok (unless_null placed.serial) → Within ok (leaves_with now (values.Ref placed.serial ∷ now.frame.stack) placed.plan)
    lays_within placed is pass =
        goes_on_within ok now here now.frame.locals (values.Ref placed.serial ∷ now.frame.stack) placed.plan here.locals
        (both ok (unless_null placed.serial) (references_in now.frame.stack) pass here.stack) is

    pub constant_loaded_within : HasNumbers ok now.machine.program → Within ok (loads_constant now)
    constant_loaded_within numbers = go (named_here now) refl where
      go : (named : Named) → named_here now ≡ named → Within ok (loads_constant now)
      go meanings.Nothing is = rw is tt
      go (meanings.Kind kind) is =
          let own = class_within ok now.machine kind (leaving now.state) (left_within ok now.state here.state) in
          rw is (lays_within (class_object now.machine kind (leaving now.state)) own.0 own.1)
      go (meanings.Static class slot) is = rw is tt
      go (meanings.Field class slot) is = rw is tt
      go (meanings.Method method) is = rw is tt
      go (meanings.Text text) is =
          let own = constant_within ok now.machine text (leaving now.state) (left_within ok now.state here.state) in
          rw is (lays_within (constant_string now.machine text (leaving now.state)) own.0 own.1)
      go (meanings.Whole value) is = rw is (pushes_within ok now here value now.frame.stack (numbers.named now.frame.method now.frame.pc value is) here.stack)

    -- local variables and the stack
    pub loads_within : (sort : Sort) (local : ℕ) → Within ok (loads now sort local)
    loads_within sort local = go (slice_get now.frame.locals local) refl where
      by_sort : (value : Value) → slice_get now.frame.locals local ≡ Some value → (is : Bool) → same_sort (sort_of value) sort ≡ is → Within ok (loads now sort local)
      by_sort value there false is = rw (there, is) tt
      by_sort value there true is =
          rw (there, is) (pushes_within ok now here value now.frame.stack (item_passes ok reference_in now.frame.locals local value there here.locals) here.stack)

      go : (found : Option Value) → slice_get now.frame.locals local ≡ found → Within ok (loads now sort local)
      go None there = rw there tt
      go (Some value) there = by_sort value there (same_sort (sort_of value) sort) refl

    pub increases_within : (local : ℕ) (by : ℤ) → Within ok (increases now local by)
    increases_within local by = go (slice_get now.frame.locals local) refl where
      go : (found : Option Value) → slice_get now.frame.locals local ≡ found → Within ok (increases now local by)
      go None there = rw there tt
      go (Some (values.Int number)) there =
          rw there
          (goes_on_within ok now here (slice_set now.frame.locals local (values.Int (int_wrap w32 (number +ℤ by)))) now.frame.stack (leaving now.state)
          (set_passes ok reference_in now.frame.locals local (values.Int (int_wrap w32 (number +ℤ by))) here.locals refl) here.stack (left_within ok now.state here.state))
      go (Some (values.Long number)) there = rw there tt
      go (Some (values.Ref serial)) there = rw there tt

    pub stores_within : (sort : Sort) (local : ℕ) → Within ok (stores now sort local)
    stores_within sort local = go (taken (sort ∷ []) now.frame.stack) refl where
      by_room : (value : Value) (rest : List Value) → taken (sort ∷ []) now.frame.stack ≡ Some (value ∷ [], rest)
          → (low : Bool) → nat_le (local + length (slots_of value)) (length now.frame.locals) ≡ low → Within ok (stores now sort local)
      by_room value rest there false low = rw (there, low) tt
      by_room value rest there true low =
          let own = at_taken (sort ∷ []) (value ∷ [], rest) there in
          rw (there, low)
          (goes_on_within ok now here (with_slots now.frame.locals local (slots_of value)) rest (leaving now.state)
          (with_slots_pass now.frame.locals local (slots_of value) here.locals (slots_pass value (parts ok (reference_in value) [] own.0).0)) own.1 (left_within ok now.state here.state))

      go : (found : Option (List Value × List Value)) → taken (sort ∷ []) now.frame.stack ≡ found → Within ok (stores now sort local)
      go None there = rw there tt
      go (Some ([], rest)) there = rw there tt
      go (Some (value ∷ other ∷ others, rest)) there = rw there tt
      go (Some (value ∷ [], rest)) there = by_room value rest there (nat_le (local + length (slots_of value)) (length now.frame.locals)) refl

    pub shuffles_within : (shuffle : Shuffle) → Within ok (shuffles now shuffle)
    shuffles_within shuffle = go (shuffled category_of_value shuffle now.frame.stack) refl where
      go : (found : Option (List Value)) → shuffled category_of_value shuffle now.frame.stack ≡ found → Within ok (shuffles now shuffle)
      go None is = rw is tt
      go (Some stack) is = rw is (leaves_within ok now here stack (shuffled_passes shuffle now.frame.stack stack here.stack is))

    -- branches, switches and returns
    to_within : (target : ℕ) (rest : List Value) → Pass ok (references_in rest) → IsPlanWithin ok (goes_to now target now.frame.locals rest (leaving now.state))
    to_within target rest pass = goes_within ok now here target now.frame.locals rest (leaving now.state) here.locals pass (left_within ok now.state here.state)

    pub branches_within : (condition : Condition) (operand : Operand) → Within ok (branches now condition operand)
    branches_within condition (operands_of.Branch target) = go (taken (tested condition) now.frame.stack) refl where
      with_answer : (operands : List Value × List Value) → taken (tested condition) now.frame.stack ≡ Some operands → (found : Option Bool) → holds condition operands.0 ≡ found
          → Within ok (branches now condition (operands_of.Branch target))
      with_answer operands there None so = rw (there, so) tt
      with_answer operands there (Some true) so = rw (there, so) (to_within target operands.1 (at_taken (tested condition) operands there).1)
      with_answer operands there (Some false) so = rw (there, so) (leaves_within ok now here operands.1 (at_taken (tested condition) operands there).1)

      go : (found : Option (List Value × List Value)) → taken (tested condition) now.frame.stack ≡ found → Within ok (branches now condition (operands_of.Branch target))
      go None there = rw there tt
      go (Some operands) there = with_answer operands there (holds condition operands.0) refl
    branches_within condition operands_of.Nothing = tt
    branches_within condition (operands_of.Number number) = tt
    branches_within condition (operands_of.Pool index) = tt
    branches_within condition (operands_of.Local local) = tt
    branches_within condition (operands_of.Increase local by) = tt
    branches_within condition (operands_of.ArrayCode code) = tt
    branches_within condition (operands_of.Dimensions pool dimensions) = tt
    branches_within condition (operands_of.Interface pool count) = tt
    branches_within condition (operands_of.Table default low targets) = tt
    branches_within condition (operands_of.Lookup default pairs) = tt

    pub switches_within : (operand : Operand) → Within ok (switches now operand)
    switches_within operand = go (taken (sorts.Int ∷ []) now.frame.stack) refl where
      of_key : (key : ℤ) (rest : List Value) → taken (sorts.Int ∷ []) now.frame.stack ≡ Some (values.Int key ∷ [], rest)
          → (target : Option ℕ) → target_for operand key ≡ target → Within ok (switches now operand)
      of_key key rest there None is = rw (there, is) tt
      of_key key rest there (Some target) is = rw (there, is) (to_within target rest (at_taken (sorts.Int ∷ []) (values.Int key ∷ [], rest) there).1)

      go : (found : Option (List Value × List Value)) → taken (sorts.Int ∷ []) now.frame.stack ≡ found → Within ok (switches now operand)
      go None there = rw there tt
      go (Some ([], rest)) there = rw there tt
      go (Some (values.Long n ∷ others, rest)) there = rw there tt
      go (Some (values.Ref n ∷ others, rest)) there = rw there tt
      go (Some (values.Int key ∷ other ∷ others, rest)) there = rw there tt
      go (Some (values.Int key ∷ [], rest)) there = of_key key rest there (target_for operand key) refl

    returned_passes : (program : Linked) (answer : List Value) (below after : List Frame) → Pass ok (references_in answer) → Pass ok (flat_map frame_references below)
        → returned_to program answer below ≡ Some after → Pass ok (flat_map frame_references after)
    returned_passes program answer [] after first second is = subst (λ frames. Pass ok (flat_map frame_references frames)) (same_Some [] after is) refl
    returned_passes program answer (Initialising class place ∷ below) after first second is =
        subst (λ frames. Pass ok (flat_map frame_references frames)) (same_Some (Initialising class place ∷ below) after is) second
    returned_passes program answer (OfMethod frame ∷ below) after first second is = go (answered program frame answer) refl is where
      own : Pass ok (references_in frame.locals) × Pass ok (references_in frame.stack)
      own = parts ok (references_in frame.locals) (references_in frame.stack) (parts ok (references_in frame.locals ++ references_in frame.stack) (flat_map frame_references below) second).0

      answered_passes : (now : MethodFrame) → answered program frame answer ≡ Some now → Pass ok (frame_references (OfMethod now))
      answered_passes now is = answers_pass program frame answer now first own is

      go : (found : Option MethodFrame) → answered program frame answer ≡ found → option_map (λ now. OfMethod now ∷ below) (answered program frame answer) ≡ Some after
          → Pass ok (flat_map frame_references after)
      go None at is = absurd (cc (sym (ap (option_map (λ now. OfMethod now ∷ below)) at) ∙ is))
      go (Some now) at is =
          subst (λ frames. Pass ok (flat_map frame_references frames))
          (same_Some (OfMethod now ∷ below) after (sym (ap (option_map (λ now. OfMethod now ∷ below)) at) ∙ is))
          (both ok (frame_references (OfMethod now)) (flat_map frame_references below) (answered_passes now at)
          (parts ok (references_in frame.locals ++ references_in frame.stack) (flat_map frame_references below) second).1)

    pub returns_within : (sort : Option Sort) → Within ok (returns now sort)
    returns_within sort = go (taken (asked_by sort) now.frame.stack) refl where
      of_frames : (operands : List Value × List Value) → taken (asked_by sort) now.frame.stack ≡ Some operands
          → (found : Option (List Frame)) → returned_to now.machine.program operands.0 now.below ≡ found → Within ok (returns now sort)
      of_frames operands there None is = rw (there, is) tt
      of_frames operands there (Some frames) is =
          rw (there, is)
          (record {
            roots = framed ok now.state.roots frames here.state.roots
                (returned_passes now.machine.program operands.0 now.below frames (at_taken (asked_by sort) operands there).0 here.below is);
            objects = here.state.objects;
            next = here.state.next;
            placed = refl;
          })

      go : (found : Option (List Value × List Value)) → taken (asked_by sort) now.frame.stack ≡ found → Within ok (returns now sort)
      go None there = rw there tt
      go (Some operands) there = of_frames operands there (returned_to now.machine.program operands.0 now.below) refl
