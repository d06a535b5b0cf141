-- Classes that begin, methods that are entered, and objects that are made, of a state of which only some objects are kept.
use Rattle.std.proofs.Common.{◌≡◌, ◌∙◌, ap, refl, ℕ, ◌+◌, Bool, true, false, List, [], ◌∷◌, length, Option, Some, None, nat_lt, ◌==◌}
use Rattle.std.specs.Prelude.{option_map, slice_get}
use Rattle.std.specs.List.{fold}
use Rattle.cb_classfile.specs.declared.body.Body.{Body}
use Rattle.cb_kinds.specs.declared.basic.Basic.{Basic}
use Rattle.cb_link.specs.Calls.{initial_parents, initialiser}
use Rattle.cb_link.specs.Named.{static_initial}
use Rattle.cb_link.specs.Slots.{static_basic}
use Rattle.cb_link.specs.declared.named.Named.{Named}
use Rattle.cb_link.specs.declared.named.Named.TheVariants as meanings
use Rattle.cb_machine.specs.Entering.{entered_from}
use Rattle.cb_machine.specs.Initialising.{begun_upon, initialising, once_ready, own_statics}
use Rattle.cb_machine.specs.Machine.{Machine, body_of}
use Rattle.cb_machine.specs.Plans.{Plan, leaving, with_left}
use Rattle.cb_machine.specs.Sites.{no_class_definition, stack_overflow}
use Rattle.cb_machine.specs.Strings.{Placed, constant_string}
use Rattle.cb_machine.specs.Values.{kept_value}
use Rattle.cb_plain.specs.Depth.{frame_of, has_room}
use Rattle.cb_plain.specs.declared.class_state.ClassState.{ClassState}
use Rattle.cb_plain.specs.declared.class_state.ClassState.TheVariants as states
use Rattle.cb_plain.specs.declared.value.Value.{Value}
use Rattle.cb_plain.specs.declared.value.Value.TheVariants as values
use Rattle.cb_plain.specs.State.{Frame, Initialising, State}
use Rattle.cb_plain.specs.Updates.{with_class, with_frames, with_static}
use Rattle.cb_act.specs.Changing.{Change, changed_plan, changed_state}
use Rattle.cb_act.proofs.KeptGoing.{constant_kept, leaving_kept, throws_kept}

-- the fields of a class that have constants
abbrev pub set_static : ℕ → Placed → Plan
set_static slot placed = with_left placed.plan (with_static placed.plan.left slot (values.Ref placed.serial))

abbrev pub set_whole : ℕ → Value → Plan → Option Basic → Plan
set_whole slot value plan None = plan
set_whole slot value plan (Some basic) = with_left plan (with_static plan.left slot (kept_value basic value))

abbrev pub set_to : Machine → ℕ → Plan → Named → Plan
set_to machine slot plan (meanings.Whole value) = set_whole slot value plan (static_basic machine.program slot)
set_to machine slot plan (meanings.Text text) = set_static slot (constant_string machine text plan)
set_to machine slot plan other = plan

abbrev pub set_initial : Machine → Plan → ℕ → Plan
set_initial machine plan slot = set_to machine slot plan (static_initial machine.program slot)

whole_kept : (change : Change) (slot : ℕ) (value : Value) (plan : Plan) (basic : Option Basic)
    → set_whole slot value (changed_plan change plan) basic ≡ changed_plan change (set_whole slot value plan basic)
whole_kept change slot value plan None = refl
whole_kept change slot value plan (Some basic) = refl

set_kept : (change : Change) (machine : Machine) (slot : ℕ) (plan : Plan) (named : Named)
    → set_to machine slot (changed_plan change plan) named ≡ changed_plan change (set_to machine slot plan named)
set_kept change machine slot plan meanings.Nothing = refl
set_kept change machine slot plan (meanings.Kind kind) = refl
set_kept change machine slot plan (meanings.Static class other) = refl
set_kept change machine slot plan (meanings.Field class other) = refl
set_kept change machine slot plan (meanings.Method method) = refl
set_kept change machine slot plan (meanings.Text text) = ap (set_static slot) (constant_kept change machine text plan)
set_kept change machine slot plan (meanings.Whole value) = whole_kept change slot value plan (static_basic machine.program slot)

fields_kept : (change : Change) (machine : Machine) (slots : List ℕ) (plan : Plan)
    → fold (set_initial machine) (changed_plan change plan) slots ≡ changed_plan change (fold (set_initial machine) plan slots)
fields_kept change machine [] plan = refl
fields_kept change machine (slot ∷ slots) plan =
    ap (λ plan. fold (set_initial machine) plan slots) (set_kept change machine slot plan (static_initial machine.program slot))
    ∙ fields_kept change machine slots (set_initial machine plan slot)

module _ (change : Change) (machine : Machine) (state : State) (same : length (change state.objects) ≡ length state.objects) where
  -- classes begin, and methods are entered
  pub begun_kept : (frames : List Frame) (class : ℕ)
      → begun_upon machine (changed_state change state) frames class ≡ changed_plan change (begun_upon machine state frames class)
  begun_kept frames class = by (has_room machine.frames frames 0) refl where
    busy : State
    busy = with_class (with_frames state (Initialising class 0 ∷ frames)) class states.Busy

    by : (room : Bool) → has_room machine.frames frames 0 ≡ room
        → begun_upon machine (changed_state change state) frames class ≡ changed_plan change (begun_upon machine state frames class)
    by false room = rw room (throws_kept change state same machine stack_overflow)
    by true room =
        rw room
        (ap (λ plan. fold (set_initial machine) plan (own_statics machine.program class)) (leaving_kept change busy same)
        ∙ fields_kept change machine (own_statics machine.program class) (leaving busy))

  pub ready_kept : (class : ℕ) (one other : Option Plan) → one ≡ option_map (changed_plan change) other
      → once_ready machine (changed_state change state) class one ≡ option_map (changed_plan change) (once_ready machine state class other)
  ready_kept class one other is = by (slice_get state.roots.classes class) refl where
    by : (own : Option ClassState) → slice_get state.roots.classes class ≡ own
        → once_ready machine (changed_state change state) class one ≡ option_map (changed_plan change) (once_ready machine state class other)
    by None at = rw at refl
    by (Some states.Untouched) at = rw at (ap Some (begun_kept state.roots.frames class))
    by (Some states.Failed) at = rw at (ap Some (throws_kept change state same machine no_class_definition))
    by (Some states.Busy) at = rw at is
    by (Some states.Done) at = rw at is

  pub entered_kept : (left : State) → length (change left.objects) ≡ length left.objects → (frames : List Frame) (method : ℕ) (arguments : List Value) (body : Body)
      → entered_from machine (changed_state change state) (changed_state change left) frames method arguments body
      ≡ changed_plan change (entered_from machine state left frames method arguments body)
  entered_kept left also frames method arguments body = by (has_room machine.frames frames (body.max_locals + body.max_stack)) refl where
    by : (room : Bool) → has_room machine.frames frames (body.max_locals + body.max_stack) ≡ room
        → entered_from machine (changed_state change state) (changed_state change left) frames method arguments body
        ≡ changed_plan change (entered_from machine state left frames method arguments body)
    by false room = rw room (throws_kept change state same machine stack_overflow)
    by true room =
        rw room (leaving_kept change (with_frames left (frame_of method body.max_locals body.max_stack arguments ∷ frames)) also)

  -- steps of an initialisation
  pub initialising_kept : (below : List Frame) (class place : ℕ)
      → initialising machine (changed_state change state) below class place ≡ option_map (changed_plan change) (initialising machine state below class place)
  initialising_kept below class place = by (nat_lt place (length (initial_parents machine.program.classes class))) refl where
    of_parent : (parent : ℕ) → slice_get (initial_parents machine.program.classes class) place ≡ Some parent
        → nat_lt place (length (initial_parents machine.program.classes class)) ≡ true
        → (own : Option ClassState) → slice_get state.roots.classes parent ≡ own
        → initialising machine (changed_state change state) below class place ≡ option_map (changed_plan change) (initialising machine state below class place)
    of_parent parent there low None at = rw (low, there, at) refl
    of_parent parent there low (Some states.Untouched) at = rw (low, there, at) (ap Some (begun_kept (Initialising class (place + 1) ∷ below) parent))
    of_parent parent there low (Some states.Failed) at =
        rw (low, there, at) (ap Some (throws_kept change (with_frames state (Initialising class (place + 1) ∷ below)) same machine no_class_definition))
    of_parent parent there low (Some states.Busy) at = rw (low, there, at) (ap Some (leaving_kept change (with_frames state (Initialising class (place + 1) ∷ below)) same))
    of_parent parent there low (Some states.Done) at = rw (low, there, at) (ap Some (leaving_kept change (with_frames state (Initialising class (place + 1) ∷ below)) same))

    of_place : (found : Option ℕ) → slice_get (initial_parents machine.program.classes class) place ≡ found
        → nat_lt place (length (initial_parents machine.program.classes class)) ≡ true
        → initialising machine (changed_state change state) below class place ≡ option_map (changed_plan change) (initialising machine state below class place)
    of_place None there low = rw (low, there) refl
    of_place (Some parent) there low = of_parent parent there low (slice_get state.roots.classes parent) refl

    done : State
    done = with_class (with_frames state below) class states.Done

    of_body : (method : ℕ) → initialiser machine.program.classes class ≡ Some method
        → nat_lt place (length (initial_parents machine.program.classes class)) ≡ false → (place == length (initial_parents machine.program.classes class)) ≡ true
        → (body : Option Body) → body_of machine.program method ≡ body
        → initialising machine (changed_state change state) below class place ≡ option_map (changed_plan change) (initialising machine state below class place)
    of_body method is low at None has = rw (low, at, is, has) refl
    of_body method is low at (Some body) has = rw (low, at, is, has) (ap Some (entered_kept state same (Initialising class (place + 1) ∷ below) method [] body))

    of_own : (method : Option ℕ) → initialiser machine.program.classes class ≡ method
        → nat_lt place (length (initial_parents machine.program.classes class)) ≡ false → (place == length (initial_parents machine.program.classes class)) ≡ true
        → initialising machine (changed_state change state) below class place ≡ option_map (changed_plan change) (initialising machine state below class place)
    of_own None is low at = rw (low, at, is) (ap Some (leaving_kept change done same))
    of_own (Some method) is low at = of_body method is low at (body_of machine.program method) refl

    of_end : (last : Bool) → nat_lt place (length (initial_parents machine.program.classes class)) ≡ false → (place == length (initial_parents machine.program.classes class)) ≡ last
        → initialising machine (changed_state change state) below class place ≡ option_map (changed_plan change) (initialising machine state below class place)
    of_end false low at = rw (low, at) (ap Some (leaving_kept change done same))
    of_end true low at = of_own (initialiser machine.program.classes class) refl low at

    by : (low : Bool) → nat_lt place (length (initial_parents machine.program.classes class)) ≡ low
        → initialising machine (changed_state change state) below class place ≡ option_map (changed_plan change) (initialising machine state below class place)
    by true low = of_place (slice_get (initial_parents machine.program.classes class) place) refl low
    by false low = of_end (place == length (initial_parents machine.program.classes class)) low refl
