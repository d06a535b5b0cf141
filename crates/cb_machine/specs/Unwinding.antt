-- A pending exception looks for its handler (JVMS §2.10, §5.5, §6.5 athrow).
use Rattle.std.specs.Prelude.{ℕ, Bool, true, false, List, [], ◌∷◌, Option, Some, None, option_and_then, nat_le, nat_lt, ◌==◌, ◌&&◌, if◌then◌else◌}
use Rattle.std.specs.List.{find}
use Rattle.cb_classfile.specs.declared.handler.Handler.{Handler}
use Rattle.cb_link.specs.Named.{handlers_at, kind_at}
use Rattle.cb_link.specs.Program.{Linked}
use Rattle.cb_link.specs.Subtypes.{instance}
use Rattle.cb_plain.specs.declared.class_state.ClassState.TheVariants.{Failed}
use Rattle.cb_plain.specs.declared.value.Value.TheVariants.{Ref}
use Rattle.cb_plain.specs.State.{Frame, Initialising, MethodFrame, OfMethod, State}
use Rattle.cb_plain.specs.Updates.{object_at, with_class, with_frames, with_pending}
use Rattle.cb_machine.specs.Library.{error}
use Rattle.cb_machine.specs.Machine.{Machine, class_declaring}
use Rattle.cb_machine.specs.Plans.{Plan, leaving}
use Rattle.cb_machine.specs.Sites.{exception_in_initializer}
use Rattle.cb_machine.specs.Standing.{at_place}
use Rattle.cb_machine.specs.Throwing.{throwing_with}

-- a handler takes an exception of a kind at a place: one without a class takes all
abbrev is_caught_as : Linked → ℕ → Option ℕ → Bool
is_caught_as program kind None = false
is_caught_as program kind (Some other) = instance program kind other

abbrev pub takes : Linked → Option ℕ → ℕ → ℕ → Handler → Bool
takes program class pc kind handler =
    nat_le handler.start pc && nat_lt pc handler.end
    && (if handler.catch_type == 0 then true else is_caught_as program kind (option_and_then (λ class. kind_at program class handler.catch_type) class))

-- the first one that does goes on with the exception alone on the stack; else the frame ends
abbrev caught_by : State → MethodFrame → List Frame → ℕ → Option Handler → Plan
caught_by state frame below serial None = leaving (with_frames state below)
caught_by state frame below serial (Some handler) =
    leaving (with_pending (with_frames state (OfMethod (at_place frame handler.handler frame.locals (Ref serial ∷ [])) ∷ below)) 0)

abbrev through_method : Machine → State → MethodFrame → List Frame → ℕ → ℕ → Plan
through_method machine state frame below serial kind =
    caught_by state frame below serial
    (find (takes machine.program (class_declaring machine.program frame.method) frame.pc kind) (handlers_at machine.program frame.method))

-- an initialisation fails. An exception that is no Error is wrapped into one
abbrev through_class : Machine → State → List Frame → ℕ → ℕ → ℕ → Plan
through_class machine state below class serial kind =
    let failed = with_class (with_frames state below) class Failed in
    if instance machine.program kind error then leaving failed
    else throwing_with machine exception_in_initializer 0 serial (leaving failed)

abbrev through : Machine → State → ℕ → ℕ → List Frame → Option Plan
through machine state serial kind [] = None
through machine state serial kind (OfMethod frame ∷ below) = Some (through_method machine state frame below serial kind)
through machine state serial kind (Initialising class place ∷ below) = Some (through_class machine state below class serial kind)

abbrev pub unwinding : Machine → State → Option Plan
unwinding machine state =
    option_and_then (λ object. through machine state state.roots.pending object.kind state.roots.frames) (object_at state state.roots.pending)
