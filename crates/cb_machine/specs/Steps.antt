-- The step of a machine, and the room that it asks for.
use Rattle.std.specs.Prelude.{ℕ, List, [], ◌∷◌, Option, Some, None, option_and_then, option_map, ◌==◌, if◌then◌else◌, zero, suc}
use Rattle.cb_insn.specs.declared.insn.Operand.{Operand}
use Rattle.cb_link.specs.Named.{behind_in, code_at, insn_in}
use Rattle.cb_plain.specs.declared.want.Want.{Want}
use Rattle.cb_plain.specs.declared.value.Value.TheVariants.{Ref}
use Rattle.cb_plain.specs.State.{Frame, Initialising, MethodFrame, OfMethod, State}
use Rattle.cb_plain.specs.Updates.{with_argument}
use Rattle.cb_shapes.specs.Shapes.{action_of}
use Rattle.cb_shapes.specs.declared.action.Action.{Action}
use Rattle.cb_shapes.specs.declared.action.Action.TheVariants as actions
use Rattle.cb_machine.specs.Arrays.{loads_element, measures, stores_element, stores_reference}
use Rattle.cb_machine.specs.Branching.{branches, switches}
use Rattle.cb_machine.specs.Calling.{invokes_interface, invokes_special, invokes_static, invokes_virtual, returns}
use Rattle.cb_machine.specs.Computing.{computes, loads_constant, loads_null, shuffles}
use Rattle.cb_machine.specs.Creating.{makes_arrays, makes_object}
use Rattle.cb_machine.specs.Entering.{entered_from}
use Rattle.cb_machine.specs.Fields.{gets_field, gets_static_field, puts_field, puts_static_field}
use Rattle.cb_machine.specs.Initialising.{initialising, once_ready}
use Rattle.cb_machine.specs.Locals.{increases, loads, stores}
use Rattle.cb_machine.specs.Machine.{Machine, body_of}
use Rattle.cb_machine.specs.Plans.{Plan, asked, made}
use Rattle.cb_machine.specs.Standing.{Now}
use Rattle.cb_machine.specs.Testing.{asks_kind, casts, throws_object}
use Rattle.cb_machine.specs.Unwinding.{unwinding}

-- an instruction does what its shape says
abbrev pub done : Now → Operand → Action → Option Plan
done now operand (actions.Compute computation) = computes now computation
done now operand actions.Null = loads_null now
done now operand (actions.Constant index) = loads_constant now
done now operand (actions.Load sort local) = loads now sort local
done now operand (actions.Store sort local) = stores now sort local
done now operand (actions.Increase local by) = increases now local by
done now operand (actions.Shuffle shuffle) = shuffles now shuffle
done now operand (actions.Branch condition) = branches now condition operand
done now operand actions.Switch = switches now operand
done now operand (actions.LoadNumber elements) = loads_element now
done now operand (actions.StoreNumber elements) = stores_element now elements
done now operand actions.Length = measures now
done now operand actions.LoadReference = loads_element now
done now operand actions.StoreReference = stores_reference now
done now operand (actions.GetField index) = gets_field now
done now operand (actions.PutField index) = puts_field now
done now operand (actions.GetStatic index) = gets_static_field now
done now operand (actions.PutStatic index) = puts_static_field now
done now operand (actions.New index) = makes_object now
done now operand (actions.NewNumbers code) = makes_arrays now 1
done now operand (actions.NewReferences index) = makes_arrays now 1
done now operand (actions.NewArrays index dimensions) = makes_arrays now dimensions
done now operand (actions.Cast index) = casts now
done now operand (actions.IsInstance index) = asks_kind now
done now operand actions.Throw = throws_object now
done now operand (actions.Return sort) = returns now sort
done now operand (actions.InvokeStatic index) = invokes_static now
done now operand (actions.InvokeSpecial index) = invokes_special now index
done now operand (actions.InvokeVirtual index) = invokes_virtual now
done now operand (actions.InvokeInterface index count) = invokes_interface now index

-- the instruction at the place of the frame that runs
abbrev standing : Machine → State → MethodFrame → List Frame → Now
standing machine state frame below =
    record { machine = machine; frame = frame; below = below; next = behind_in (code_at machine.program frame.method) frame.pc; state = state }

abbrev executing : Machine → State → MethodFrame → List Frame → Option Plan
executing machine state frame below =
    option_and_then (λ insn. option_and_then (done (standing machine state frame below) insn.operand) (action_of insn))
    (insn_in (code_at machine.program frame.method) frame.pc)

-- main is entered once its class is ready, and then no array waits for it
abbrev entering : Machine → State → Option Plan
entering machine state =
    once_ready machine state machine.program.main_class
    (option_map (entered_from machine state (with_argument state 0) [] machine.program.main_method (Ref state.roots.argument ∷ []))
    (body_of machine.program machine.program.main_method))

abbrev beginning : Machine → State → ℕ → Option Plan
beginning machine state zero = None
beginning machine state (suc place) = entering machine state

abbrev by_frames : Machine → State → List Frame → Option Plan
by_frames machine state [] = beginning machine state state.roots.argument
by_frames machine state (OfMethod frame ∷ below) = executing machine state frame below
by_frames machine state (Initialising class place ∷ below) = initialising machine state below class place

-- the first of these that applies: the run has ended; an exception is pending; no frame stands; a class is initialised; a method runs
abbrev running : Machine → State → Option Plan
running machine state = if state.roots.pending == 0 then by_frames machine state state.roots.frames else unwinding machine state

abbrev pub plan : Machine → State → Option Plan
plan machine state = unless_ended state.exit where
  unless_ended : {Status : Type 0} → Option Status → Option Plan
  unless_ended None = running machine state
  unless_ended (Some status) = None

abbrev pub step : Machine → State → Option State
step machine state = option_map made (plan machine state)

abbrev pub asked_of : Option Plan → List Want
asked_of None = []
asked_of (Some plan) = asked plan

abbrev pub request : Machine → State → List Want
request machine state = asked_of (plan machine state)
