-- The initialisation of classes (JVMS §5.5, §4.7.2).
use Rattle.std.specs.Prelude.{ℕ, ◌+◌, Bool, false, List, [], ◌∷◌, filter, length, Option, Some, None, option_and_then, option_map, slice_get, nat_lt, ◌==◌, if◌then◌else◌}
use Rattle.std.specs.List.{fold, range_with_len}
use Rattle.cb_classfile.specs.declared.field.Field.{Field}
use Rattle.cb_kinds.specs.declared.basic.Basic.{Basic}
use Rattle.cb_link.specs.declared.named.Named.{Named}
use Rattle.cb_link.specs.declared.named.Named.TheVariants as meanings
use Rattle.cb_link.specs.Calls.{initial_parents, initialiser}
use Rattle.cb_link.specs.Named.{static_initial}
use Rattle.cb_link.specs.Numbers.{Numbered}
use Rattle.cb_link.specs.Program.{Linked}
use Rattle.cb_link.specs.Slots.{static_at, static_basic, statics}
use Rattle.cb_plain.specs.Depth.{has_room}
use Rattle.cb_plain.specs.declared.class_state.ClassState.{ClassState}
use Rattle.cb_plain.specs.declared.class_state.ClassState.TheVariants.{Busy, Done, Failed, Untouched}
use Rattle.cb_plain.specs.declared.value.Value.{Value}
use Rattle.cb_plain.specs.declared.value.Value.TheVariants.{Ref}
use Rattle.cb_plain.specs.State.{Frame, Initialising, State}
use Rattle.cb_plain.specs.Updates.{with_class, with_frames, with_static}
use Rattle.cb_machine.specs.Entering.{entered_upon}
use Rattle.cb_machine.specs.Machine.{Machine, body_of}
use Rattle.cb_machine.specs.Plans.{Plan, leaving, with_left}
use Rattle.cb_machine.specs.Sites.{no_class_definition, stack_overflow}
use Rattle.cb_machine.specs.Strings.{Placed, constant_string}
use Rattle.cb_machine.specs.Throwing.{throws}
use Rattle.cb_machine.specs.Values.{kept_value}

-- the slots of a class's own static fields, in order
abbrev is_declared_by : ℕ → Option (Numbered Field) → Bool
is_declared_by class None = false
is_declared_by class (Some field) = field.class == class

abbrev pub own_statics : Linked → ℕ → List ℕ
own_statics program class =
    filter (λ slot. is_declared_by class (static_at program slot)) (range_with_len 0 (length (statics program.classes)))

-- a field with a constant gets its value
abbrev set_static : ℕ → Placed → Plan
set_static slot placed = with_left placed.plan (with_static placed.plan.left slot (Ref placed.serial))

abbrev set_whole : ℕ → Value → Plan → Option Basic → Plan
set_whole slot value plan None = plan
set_whole slot value plan (Some basic) = with_left plan (with_static plan.left slot (kept_value basic value))

abbrev set_to : Machine → ℕ → Plan → Named → Plan
set_to machine slot plan (meanings.Whole value) = set_whole slot value plan (static_basic machine.program slot)
set_to machine slot plan (meanings.Text text) = set_static slot (constant_string machine text plan)
set_to machine slot plan other = plan

abbrev set_initial : Machine → Plan → ℕ → Plan
set_initial machine plan slot = set_to machine slot plan (static_initial machine.program slot)

-- the initialisation of a class begins upon these frames: it is busy, and its fields with constants have their values. Where there is no
-- room for a frame, nothing else changes
abbrev pub begun_upon : Machine → State → List Frame → ℕ → Plan
begun_upon machine state frames class =
    if has_room machine.frames frames 0 then
    fold (set_initial machine) (leaving (with_class (with_frames state (Initialising class 0 ∷ frames)) class Busy)) (own_statics machine.program class)
    else throws machine state stack_overflow

-- what has to be done before a class is used, if it isn't ready: its initialisation begins, or it has failed
abbrev by_state : Machine → State → ℕ → Option Plan → ClassState → Option Plan
by_state machine state class ready Untouched = Some (begun_upon machine state state.roots.frames class)
by_state machine state class ready Failed = Some (throws machine state no_class_definition)
by_state machine state class ready Busy = ready
by_state machine state class ready Done = ready

abbrev pub once_ready : Machine → State → ℕ → Option Plan → Option Plan
once_ready machine state class ready = option_and_then (by_state machine state class ready) (slice_get state.roots.classes class)

-- what comes before a class's own initialiser, one after the other
abbrev behind_parent : Machine → State → List Frame → ℕ → ClassState → Plan
behind_parent machine state frames parent Untouched = begun_upon machine state frames parent
behind_parent machine state frames parent Failed = throws machine (with_frames state frames) no_class_definition
behind_parent machine state frames parent other = leaving (with_frames state frames)

-- it is done
abbrev finished : State → List Frame → ℕ → Plan
finished state below class = leaving (with_class (with_frames state below) class Done)

-- its initialiser is entered, if it has one
abbrev own_turn : Machine → State → List Frame → ℕ → ℕ → Option ℕ → Option Plan
own_turn machine state below class place None = Some (finished state below class)
own_turn machine state below class place (Some method) =
    option_map (entered_upon machine state (Initialising class (place + 1) ∷ below) method []) (body_of machine.program method)

abbrev parent_turn : Machine → State → List Frame → ℕ → ℕ → List ℕ → Option Plan
parent_turn machine state below class place parents =
    option_and_then (λ parent. option_map (behind_parent machine state (Initialising class (place + 1) ∷ below) parent) (slice_get state.roots.classes parent)) (slice_get parents place)

-- a step of an initialisation at a place
abbrev by_place : Machine → State → List Frame → ℕ → ℕ → List ℕ → Option Plan
by_place machine state below class place parents =
    if nat_lt place (length parents) then parent_turn machine state below class place parents
    else if place == length parents then own_turn machine state below class place (initialiser machine.program.classes class)
    else Some (finished state below class)

abbrev pub initialising : Machine → State → List Frame → ℕ → ℕ → Option Plan
initialising machine state below class place = by_place machine state below class place (initial_parents machine.program.classes class)
