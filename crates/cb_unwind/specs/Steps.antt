-- What is left here, and the machine's step.
use Rattle.std.specs.Prelude.{Option, Some, None}
use Rattle.cb_heap.specs.Reading.{View}
use Rattle.cb_machine.specs.Machine.{Machine}
use Rattle.cb_machine.specs.Plans.{Plan, leaving}
use Rattle.cb_machine.specs.Sites.{no_class_definition, stack_overflow}
use Rattle.cb_machine.specs.Throwing.{throws}
use Rattle.cb_plain.specs.State.{Roots, State}
use Rattle.cb_plain.specs.Updates.{with_objects, with_roots}
use Rattle.cb_unwind.specs.declared.answers.InitStep.{InitStep}
use Rattle.cb_unwind.specs.declared.answers.InitStep.TheVariants.{Goes, Deep, FailedParent}
use Rattle.cb_unwind.specs.declared.answers.Unwound.{Unwound}
use Rattle.cb_unwind.specs.declared.answers.Unwound.TheVariants.{NoFrame, Caught, Popped, Wrapped}

-- what roots and objects a state has, and the state with others
abbrev pub view_of : State → View
view_of state = record { roots = state.roots; objects = state.objects }

abbrev pub with_view : State → View → State
with_view state view = with_objects (with_roots state view.roots) view.objects

-- the step of an initialisation leaves these roots, or throws: where there is no room, and where a class that comes before has failed
abbrev pub init_plan : Machine → State → InitStep × Roots → Plan
init_plan machine state (Goes, roots) = leaving (with_roots state roots)
init_plan machine state (Deep, roots) = throws machine state stack_overflow
init_plan machine state (FailedParent, roots) = throws machine (with_roots state roots) no_class_definition

-- the step of unwinding where nothing is placed: there is none where no frame stands
abbrev pub unwound_plan : State → Unwound × View → Option Plan
unwound_plan state (NoFrame, view) = None
unwound_plan state (Caught, view) = Some (leaving (with_view state view))
unwound_plan state (Popped, view) = Some (leaving (with_view state view))
unwound_plan state (Wrapped, view) = None
