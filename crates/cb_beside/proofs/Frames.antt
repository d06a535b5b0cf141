-- Instructions that look at frames alone, and constants.
use Rattle.std.proofs.Common.{◌≡◌, ◌∙◌, ap, refl, ℕ, ℤ, List, [], ◌∷◌, Bool, true, false, Option, Some, None}
use Rattle.std.specs.Prelude.{option_and_then, option_map, slice_get}
use Rattle.cb_insn.specs.declared.insn.Operand.{Operand}
use Rattle.cb_insn.specs.declared.insn.Operand.TheVariants as operands
use Rattle.cb_link.specs.Program.{Linked}
use Rattle.cb_link.specs.declared.named.Named.{Named}
use Rattle.cb_link.specs.declared.named.Named.TheVariants as meanings
use Rattle.cb_machine.specs.Branching.{branches, holds, switches, target_for}
use Rattle.cb_machine.specs.Calling.{answered, returns}
use Rattle.cb_machine.specs.Computing.{computes, loads_constant, loads_null, shuffles}
use Rattle.cb_machine.specs.Locals.{increases, loads, stores}
use Rattle.cb_machine.specs.Plans.{Plan, leaving}
use Rattle.cb_machine.specs.Standing.{Now, leaves, leaves_with, named_here, same_sort, taken}
use Rattle.cb_machine.specs.Strings.{Placed, class_object, constant_string}
use Rattle.cb_machine.specs.Values.{category_of_value, null, numbers_of, sort_of}
use Rattle.cb_plain.specs.declared.value.Value.{Value}
use Rattle.cb_plain.specs.declared.value.Value.TheVariants as values
use Rattle.cb_plain.specs.State.{Frame, OfMethod}
use Rattle.cb_plain.specs.Updates.{with_frames}
use Rattle.cb_shapes.specs.Computations.{Gives, ByZero, computed, takes}
use Rattle.cb_shapes.specs.Conditions.{takes as tested}
use Rattle.cb_shapes.specs.Shuffles.{shuffled}
use Rattle.cb_shapes.specs.declared.computation.Computation.{Computation}
use Rattle.cb_shapes.specs.declared.shuffle.Shuffle.{Shuffle}
use Rattle.cb_shapes.specs.declared.sort.Sort.{Sort}
use Rattle.cb_shapes.specs.declared.sort.Sort.TheVariants as sorts
use Rattle.cb_shapes.specs.declared.test.Condition.{Condition}
use Rattle.cb_beside.specs.Beside.{beside, now_in, plan_beside}
use Rattle.cb_beside.proofs.Going.{Does, by_zero_same, class_same, constant_same, either_same, goes_on_same, leaves_same, map_same, pair_same, placed_beside, then_same}

-- what is loaded, and what a constant is
abbrev loads_if : Now → Value → Bool → Option Plan
loads_if now value true = leaves now (value ∷ now.frame.stack)
loads_if now value false = None

abbrev lays_placed : Now → Placed → Option Plan
lays_placed now placed = leaves_with now (values.Ref placed.serial ∷ now.frame.stack) placed.plan

abbrev lays_named : Now → Named → Option Plan
lays_named now (meanings.Whole value) = leaves now (value ∷ now.frame.stack)
lays_named now (meanings.Text text) = lays_placed now (constant_string now.machine text (leaving now.state))
lays_named now (meanings.Kind kind) = lays_placed now (class_object now.machine kind (leaving now.state))
lays_named now other = None

-- what a return takes, and the frames that it leaves
abbrev asked_by : Option Sort → List Sort
asked_by None = []
asked_by (Some sort) = sort ∷ []

abbrev returned_to : Linked → List Value → List Frame → Option (List Frame)
returned_to program answer (OfMethod frame ∷ below) = option_map (λ now. OfMethod now ∷ below) (answered program frame answer)
returned_to program answer other = Some other

module _ (input printed : List ℕ) (now : Now) where
  abbrev there : Now
  there = now_in now (beside now.state input printed)

  pub computes_same : (computation : Computation) → Does input printed now (λ now. computes now computation)
  computes_same computation =
      pair_same input printed _ _ (taken (takes computation) now.frame.stack)
      (λ held rest. then_same input printed _ _ (option_and_then (computed computation) (numbers_of held))
      (elim [ ByZero ↦ ap Some (by_zero_same input printed now.machine now.state) | Gives numbers ↦ leaves_same input printed now _ ]))

  pub null_same : Does input printed now loads_null
  null_same = leaves_same input printed now (null ∷ now.frame.stack)

  placed_same : (placed : Placed) → lays_placed there (placed_beside input printed placed) ≡ option_map (plan_beside input printed) (lays_placed now placed)
  placed_same placed = goes_on_same input printed now now.frame.locals (values.Ref placed.serial ∷ now.frame.stack) placed.plan

  lays_same : (named : Named) → Does input printed now (λ now. lays_named now named)
  lays_same (meanings.Whole value) = leaves_same input printed now (value ∷ now.frame.stack)
  lays_same (meanings.Text text) =
      ap (lays_placed there) (constant_same input printed now.machine text (leaving now.state)) ∙ placed_same (constant_string now.machine text (leaving now.state))
  lays_same (meanings.Kind kind) =
      ap (lays_placed there) (class_same input printed now.machine kind (leaving now.state)) ∙ placed_same (class_object now.machine kind (leaving now.state))
  lays_same other = refl

  pub constant_loaded_same : Does input printed now loads_constant
  constant_loaded_same = lays_same (named_here now)

  load_same : (value : Value) (is : Bool) → Does input printed now (λ now. loads_if now value is)
  load_same value true = leaves_same input printed now (value ∷ now.frame.stack)
  load_same value false = refl

  pub loads_same : (sort : Sort) (local : ℕ) → Does input printed now (λ now. loads now sort local)
  loads_same sort local = then_same input printed _ _ (slice_get now.frame.locals local) (λ value. load_same value (same_sort (sort_of value) sort))

  pub stores_same : (sort : Sort) (local : ℕ) → Does input printed now (λ now. stores now sort local)
  stores_same sort local =
      pair_same input printed _ _ (taken (sort ∷ []) now.frame.stack)
      (elim [
        | (value ∷ []) ↦ λ rest. either_same (option_map (plan_beside input printed)) _ _ _ _ _ (goes_on_same input printed now _ rest (leaving now.state)) refl
        | other ↦ λ rest. refl
      ])

  pub increases_same : (local : ℕ) (by : ℤ) → Does input printed now (λ now. increases now local by)
  increases_same local by =
      then_same input printed _ _ (slice_get now.frame.locals local)
      (elim [ values.Int number ↦ goes_on_same input printed now _ now.frame.stack (leaving now.state) | other ↦ refl ])

  pub shuffles_same : (shuffle : Shuffle) → Does input printed now (λ now. shuffles now shuffle)
  shuffles_same shuffle =
      then_same input printed _ _ (shuffled category_of_value shuffle now.frame.stack) (λ stack. leaves_same input printed now stack)

  pub branches_same : (condition : Condition) (operand : Operand) → Does input printed now (λ now. branches now condition operand)
  branches_same condition (operands.Branch target) =
      pair_same input printed _ _ (taken (tested condition) now.frame.stack)
      (λ held rest. then_same input printed _ _ (holds condition held) (elim [ true ↦ refl | false ↦ leaves_same input printed now rest ]))
  branches_same condition operand = refl

  pub switches_same : (operand : Operand) → Does input printed now (λ now. switches now operand)
  switches_same operand =
      pair_same input printed _ _ (taken (sorts.Int ∷ []) now.frame.stack)
      (elim [ (values.Int key ∷ []) ↦ λ rest. map_same input printed _ _ (target_for operand key) (λ target. refl) | other ↦ λ rest. refl ])

  pub returns_same : (sort : Option Sort) → Does input printed now (λ now. returns now sort)
  returns_same sort =
      pair_same input printed _ _ (taken (asked_by sort) now.frame.stack)
      (λ held rest. map_same input printed
      (λ frames. leaving (with_frames (beside now.state input printed) frames)) (λ frames. leaving (with_frames now.state frames))
      (returned_to now.machine.program held now.below) (λ frames. refl))
