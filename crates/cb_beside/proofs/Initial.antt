-- Classes that are initialised, and methods that are entered.
use Rattle.std.proofs.Common.{◌≡◌, ◌∙◌, ap, refl, ℕ, ◌+◌, List, [], ◌∷◌, length, Option, Some, None, nat_lt, ◌==◌}
use Rattle.std.specs.Prelude.{option_map, slice_get}
use Rattle.std.specs.List.{fold}
use Rattle.cb_classfile.specs.declared.body.Body.{Body}
use Rattle.cb_kinds.specs.declared.basic.Basic.{Basic}
use Rattle.cb_link.specs.Calls.{initial_parents, initialiser}
use Rattle.cb_link.specs.Named.{static_initial}
use Rattle.cb_link.specs.Slots.{static_basic}
use Rattle.cb_link.specs.declared.named.Named.{Named}
use Rattle.cb_link.specs.declared.named.Named.TheVariants as meanings
use Rattle.cb_machine.specs.Entering.{entered_from}
use Rattle.cb_machine.specs.Initialising.{begun_upon, initialising, once_ready, own_statics}
use Rattle.cb_machine.specs.Machine.{Machine, body_of}
use Rattle.cb_machine.specs.Plans.{Plan, leaving, with_left}
use Rattle.cb_machine.specs.Strings.{Placed, constant_string}
use Rattle.cb_machine.specs.Values.{kept_value}
use Rattle.cb_plain.specs.Depth.{has_room}
use Rattle.cb_plain.specs.declared.class_state.ClassState.TheVariants as states
use Rattle.cb_plain.specs.declared.value.Value.{Value}
use Rattle.cb_plain.specs.declared.value.Value.TheVariants as values
use Rattle.cb_plain.specs.State.{Frame, Initialising, State}
use Rattle.cb_plain.specs.Updates.{with_class, with_frames, with_static}
use Rattle.cb_beside.specs.Beside.{beside, plan_beside}
use Rattle.cb_beside.proofs.Going.{Same, constant_same, either_same, map_same, then_same}

-- the fields of a class that have constants
abbrev set_static : ℕ → Placed → Plan
set_static slot placed = with_left placed.plan (with_static placed.plan.left slot (values.Ref placed.serial))

abbrev set_whole : ℕ → Value → Plan → Option Basic → Plan
set_whole slot value plan None = plan
set_whole slot value plan (Some basic) = with_left plan (with_static plan.left slot (kept_value basic value))

abbrev set_to : Machine → ℕ → Plan → Named → Plan
set_to machine slot plan (meanings.Whole value) = set_whole slot value plan (static_basic machine.program slot)
set_to machine slot plan (meanings.Text text) = set_static slot (constant_string machine text plan)
set_to machine slot plan other = plan

abbrev set_initial : Machine → Plan → ℕ → Plan
set_initial machine plan slot = set_to machine slot plan (static_initial machine.program slot)

-- the initialiser of a class, if it has one
abbrev own_turn : Machine → State → List Frame → ℕ → ℕ → Option ℕ → Option Plan
own_turn machine state below class place None = Some (leaving (with_class (with_frames state below) class states.Done))
own_turn machine state below class place (Some method) =
    option_map (λ body. entered_from machine state state (Initialising class (place + 1) ∷ below) method [] body) (body_of machine.program method)

module _ (input printed : List ℕ) (machine : Machine) where
  whole_same : (slot : ℕ) (value : Value) (plan : Plan) (basic : Option Basic)
      → set_whole slot value (plan_beside input printed plan) basic ≡ plan_beside input printed (set_whole slot value plan basic)
  whole_same slot value plan None = refl
  whole_same slot value plan (Some basic) = refl

  set_same : (slot : ℕ) (plan : Plan) (named : Named)
      → set_to machine slot (plan_beside input printed plan) named ≡ plan_beside input printed (set_to machine slot plan named)
  set_same slot plan (meanings.Text text) = ap (set_static slot) (constant_same input printed machine text plan)
  set_same slot plan (meanings.Whole value) = whole_same slot value plan (static_basic machine.program slot)
  set_same slot plan other = refl

  fields_same : (slots : List ℕ) (plan : Plan)
      → fold (set_initial machine) (plan_beside input printed plan) slots ≡ plan_beside input printed (fold (set_initial machine) plan slots)
  fields_same [] plan = refl
  fields_same (slot ∷ slots) plan =
      ap (λ plan. fold (set_initial machine) plan slots) (set_same slot plan (static_initial machine.program slot))
      ∙ fields_same slots (set_initial machine plan slot)

  -- a class begins; what comes once it is ready; and a method is entered
  pub begun_same : (state : State) (frames : List Frame) (class : ℕ)
      → begun_upon machine (beside state input printed) frames class ≡ plan_beside input printed (begun_upon machine state frames class)
  begun_same state frames class =
      either_same (plan_beside input printed) (has_room machine.frames frames 0) _ _ _ _
      (fields_same (own_statics machine.program class) (leaving (with_class (with_frames state (Initialising class 0 ∷ frames)) class states.Busy))) refl

  pub ready_same : (state : State) (class : ℕ) (one other : Option Plan) → Same input printed one other
      → Same input printed (once_ready machine (beside state input printed) class one) (once_ready machine state class other)
  ready_same state class one other is =
      then_same input printed _ _ (slice_get state.roots.classes class)
      (elim [
        | states.Untouched ↦ ap Some (begun_same state state.roots.frames class)
        | states.Failed ↦ refl
        | states.Busy ↦ is
        | states.Done ↦ is
      ])

  pub entered_same : (state left : State) (frames : List Frame) (method : ℕ) (arguments : List Value) (body : Body)
      → entered_from machine (beside state input printed) (beside left input printed) frames method arguments body
      ≡ plan_beside input printed (entered_from machine state left frames method arguments body)
  entered_same state left frames method arguments body =
      either_same (plan_beside input printed) (has_room machine.frames frames (body.max_locals + body.max_stack)) _ _ _ _ refl refl

  -- steps of an initialisation
  module _ (state : State) (below : List Frame) (class place : ℕ) where
    own_same : (method : Option ℕ)
        → Same input printed (own_turn machine (beside state input printed) below class place method) (own_turn machine state below class place method)
    own_same None = refl
    own_same (Some method) =
        map_same input printed _ _ (body_of machine.program method) (λ body. entered_same state state (Initialising class (place + 1) ∷ below) method [] body)

    pub initialising_same : Same input printed (initialising machine (beside state input printed) below class place) (initialising machine state below class place)
    initialising_same =
        either_same (option_map (plan_beside input printed)) (nat_lt place (length (initial_parents machine.program.classes class))) _ _ _ _
        (then_same input printed _ _ (slice_get (initial_parents machine.program.classes class) place)
        (λ parent. map_same input printed _ _ (slice_get state.roots.classes parent)
        (elim [ states.Untouched ↦ begun_same state (Initialising class (place + 1) ∷ below) parent | other ↦ refl ])))
        (either_same (option_map (plan_beside input printed)) (place == length (initial_parents machine.program.classes class)) _ _ _ _
        (own_same (initialiser machine.program.classes class)) refl)
