-- What the effects of instructions have to do with the machine's step.
use Rattle.std.specs.Prelude.{◌≡◌, ◌+◌, ◌∷◌, ℕ, Bool, false, Option, Some, None, option_map, slice_get, if◌then◌else◌}
use Rattle.cb_classfile.specs.declared.body.Body.{Body}
use Rattle.cb_frames.specs.Tops.{entered, placed}
use Rattle.cb_heap.specs.Reading.{View}
use Rattle.cb_kinds.specs.declared.basic.Basic.{Basic}
use Rattle.cb_machine.specs.Arrays.{element_of, fits_element}
use Rattle.cb_machine.specs.Computing.{throws_by_zero}
use Rattle.cb_machine.specs.Plans.{Plan, leaving}
use Rattle.cb_machine.specs.Sites.{stack_overflow}
use Rattle.cb_machine.specs.Standing.{Now}
use Rattle.cb_machine.specs.Throwing.{throws}
use Rattle.cb_plain.specs.Depth.{has_room}
use Rattle.cb_plain.specs.declared.value.Value.TheVariants.{Ref}
use Rattle.cb_plain.specs.State.{Object, OfMethod, Roots, State}
use Rattle.cb_plain.specs.Updates.{object_at, with_objects, with_roots}
use Rattle.cb_act.specs.Objects.{Goes, Left, Throws}

-- where a machine stands at an instruction, its frame is the topmost one, and the next instruction is at this place
pub record StandsBefore (now : Now) (pc : ℕ) : Type 0 where
  pub frames : now.state.roots.frames ≡ OfMethod now.frame ∷ now.below
  pub next : now.next ≡ Some pc

-- the step leaves these roots, at a place, and all else as it was; there is no step where nothing is left
abbrev pub steps_to : Now → ℕ → Option Roots → Option Plan
steps_to now pc left = option_map (λ left. leaving (with_roots now.state (placed left pc))) left

-- a computation that gives nothing would divide by zero, and an exception is thrown
abbrev pub computes_to : Now → ℕ → Option Bool → Option Roots → Option Plan
computes_to now pc (Some false) left = Some (throws_by_zero now.machine now.state)
computes_to now pc other left = steps_to now pc left

-- a branch goes to its target where it is told so, and else on
abbrev pub tests_to : Now → (pc target : ℕ) → Option Bool → Option Roots → Option Plan
tests_to now pc target None left = None
tests_to now pc target (Some is) left = steps_to now (if is then target else pc) left

-- what roots and objects a state has, and the step that leaves others, or throws an exception of the machine's; there is no step where
-- nothing is left
abbrev pub view_of : State → View
view_of state = record { roots = state.roots; objects = state.objects }

abbrev pub left_to : Now → ℕ → Option Left → Option Plan
left_to now pc None = None
left_to now pc (Some (Goes view)) = Some (leaving (with_objects (with_roots now.state (placed view.roots pc)) view.objects))
left_to now pc (Some (Throws site)) = Some (throws now.machine now.state site)

-- or an exception becomes pending, and the frame stays where it is
abbrev pub pends_to : Now → Option Left → Option Plan
pends_to now None = None
pends_to now (Some (Goes view)) = Some (leaving (with_objects (with_roots now.state view.roots) view.objects))
pends_to now (Some (Throws site)) = Some (throws now.machine now.state site)

-- the array at a depth of the stack, if it is one, has elements of a type
abbrev pub HasElements : Now → (depth : ℕ) → Basic → Type 0
HasElements now depth basic = (array : ℕ) (object : Object) → slice_get now.frame.stack depth ≡ Some (Ref array) → object_at now.state array ≡ Some object
    → element_of now.machine.program object.kind ≡ Some basic

-- whether a reference on top of the stack fits the elements of the array below its index
abbrev pub FitsArray : Now → Bool → Type 0
FitsArray now fits = (value array : ℕ) (object : Object) → slice_get now.frame.stack 0 ≡ Some (Ref value) → slice_get now.frame.stack 2 ≡ Some (Ref array)
    → object_at now.state array ≡ Some object → fits_element now (element_of now.machine.program object.kind) value ≡ fits

-- the step goes to the place that is told, or ends the topmost frame, and leaves these roots
abbrev pub goes_as : Now → Option (ℕ × Roots) → Option Plan
goes_as now gone = option_map (λ gone. leaving (with_roots now.state (placed gone.1 gone.0))) gone

abbrev pub returns_as : Now → Option Roots → Option Plan
returns_as now left = option_map (λ left. leaving (with_roots now.state left)) left

-- a method with code is entered with so many arguments from the stack, or there is no room for its frame
abbrev pub entered_to : Now → ℕ → ℕ → Body → Plan
entered_to now method count body =
    if has_room now.machine.frames now.state.roots.frames (body.max_locals + body.max_stack)
    then leaving (with_roots now.state (entered now.state.roots method count body.max_locals body.max_stack)) else throws now.machine now.state stack_overflow
