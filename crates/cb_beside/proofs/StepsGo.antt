-- The step beside another input and other printed bytes, by whether it reads.
use Rattle.std.proofs.Common.{refl, ℕ, ℤ, List, [], ◌∷◌, Bool, true, false, Option, Some, None, zero, suc, ◌==◌, if◌then◌else◌}
use Rattle.std.specs.Prelude.{option_and_then}
use Rattle.cb_insn.specs.declared.insn.Insn.{Insn}
use Rattle.cb_insn.specs.declared.insn.Operand.{Operand}
use Rattle.cb_link.specs.Named.{behind_in, code_at, insn_in, named}
use Rattle.cb_machine.specs.Initialising.{initialising}
use Rattle.cb_machine.specs.Machine.{Machine}
use Rattle.cb_machine.specs.Plans.{Plan}
use Rattle.cb_machine.specs.Standing.{Now, named_here}
use Rattle.cb_machine.specs.Steps.{done, plan}
use Rattle.cb_machine.specs.Unwinding.{unwinding}
use Rattle.cb_plain.specs.State.{Frame, Initialising, MethodFrame, OfMethod, State}
use Rattle.cb_shapes.specs.Shapes.{action_of}
use Rattle.cb_shapes.specs.declared.action.Action.{Action}
use Rattle.cb_shapes.specs.declared.action.Action.TheVariants as actions
use Rattle.cb_beside.specs.Asking.{asks_input, reads_by_action, reads_by_frames}
use Rattle.cb_beside.specs.Beside.{beside, plan_beside}
use Rattle.cb_beside.proofs.Calls.{Steps, invokes_interface_goes, invokes_special_goes, invokes_static_goes, invokes_virtual_goes, silent}
use Rattle.cb_beside.proofs.Frames.{branches_same, computes_same, constant_loaded_same, increases_same, loads_same, null_same, returns_same, shuffles_same, stores_same, switches_same}
use Rattle.cb_beside.proofs.Goes.{Goes, TakesOne, plain}
use Rattle.cb_beside.proofs.Going.{Does, Same}
use Rattle.cb_beside.proofs.Initial.{initialising_same}
use Rattle.cb_beside.proofs.Making.{makes_arrays_same, makes_same}
use Rattle.cb_beside.proofs.Objects.{asks_same, casts_same, gets_same, gets_static_same, loads_element_same, measures_same, puts_same, puts_static_same, stores_element_same, stores_reference_same, throws_object_same}
use Rattle.cb_beside.proofs.Unwinding.{entering, entering_same, unwinding_same}

module _ (now : Now) where
  -- an instruction that is no call
  plainly : (piece : Now → Option Plan) → ((input printed : List ℕ) → Does input printed now piece) → Steps now false piece
  plainly piece same = silent now false piece same

  abbrev Acts : Operand → Action → Type 0
  Acts operand action =
      Steps now (reads_by_action now.machine.program now.state now.frame (named_here now) (Some action)) (λ now. done now operand action)

  pub done_goes : (operand : Operand) (action : Action) → Acts operand action
  done_goes operand (actions.Compute computation) = plainly (λ now. done now operand (actions.Compute computation)) (λ input printed. computes_same input printed now computation)
  done_goes operand actions.Null = plainly (λ now. done now operand actions.Null) (λ input printed. null_same input printed now)
  done_goes operand (actions.Constant index) = plainly (λ now. done now operand (actions.Constant index)) (λ input printed. constant_loaded_same input printed now)
  done_goes operand (actions.Load sort local) = plainly (λ now. done now operand (actions.Load sort local)) (λ input printed. loads_same input printed now sort local)
  done_goes operand (actions.Store sort local) = plainly (λ now. done now operand (actions.Store sort local)) (λ input printed. stores_same input printed now sort local)
  done_goes operand (actions.Increase local by) = plainly (λ now. done now operand (actions.Increase local by)) (λ input printed. increases_same input printed now local by)
  done_goes operand (actions.Shuffle shuffle) = plainly (λ now. done now operand (actions.Shuffle shuffle)) (λ input printed. shuffles_same input printed now shuffle)
  done_goes operand (actions.Branch condition) = plainly (λ now. done now operand (actions.Branch condition)) (λ input printed. branches_same input printed now condition operand)
  done_goes operand actions.Switch = plainly (λ now. done now operand actions.Switch) (λ input printed. switches_same input printed now operand)
  done_goes operand (actions.LoadNumber elements) = plainly (λ now. done now operand (actions.LoadNumber elements)) (λ input printed. loads_element_same input printed now)
  done_goes operand (actions.StoreNumber elements) = plainly (λ now. done now operand (actions.StoreNumber elements)) (λ input printed. stores_element_same input printed now elements)
  done_goes operand actions.Length = plainly (λ now. done now operand actions.Length) (λ input printed. measures_same input printed now)
  done_goes operand actions.LoadReference = plainly (λ now. done now operand actions.LoadReference) (λ input printed. loads_element_same input printed now)
  done_goes operand actions.StoreReference = plainly (λ now. done now operand actions.StoreReference) (λ input printed. stores_reference_same input printed now)
  done_goes operand (actions.GetField index) = plainly (λ now. done now operand (actions.GetField index)) (λ input printed. gets_same input printed now)
  done_goes operand (actions.PutField index) = plainly (λ now. done now operand (actions.PutField index)) (λ input printed. puts_same input printed now)
  done_goes operand (actions.GetStatic index) = plainly (λ now. done now operand (actions.GetStatic index)) (λ input printed. gets_static_same input printed now)
  done_goes operand (actions.PutStatic index) = plainly (λ now. done now operand (actions.PutStatic index)) (λ input printed. puts_static_same input printed now)
  done_goes operand (actions.New index) = plainly (λ now. done now operand (actions.New index)) (λ input printed. makes_same input printed now)
  done_goes operand (actions.NewNumbers code) = plainly (λ now. done now operand (actions.NewNumbers code)) (λ input printed. makes_arrays_same input printed now 1)
  done_goes operand (actions.NewReferences index) = plainly (λ now. done now operand (actions.NewReferences index)) (λ input printed. makes_arrays_same input printed now 1)
  done_goes operand (actions.NewArrays index dimensions) =
      plainly (λ now. done now operand (actions.NewArrays index dimensions)) (λ input printed. makes_arrays_same input printed now dimensions)
  done_goes operand (actions.Cast index) = plainly (λ now. done now operand (actions.Cast index)) (λ input printed. casts_same input printed now)
  done_goes operand (actions.IsInstance index) = plainly (λ now. done now operand (actions.IsInstance index)) (λ input printed. asks_same input printed now)
  done_goes operand actions.Throw = plainly (λ now. done now operand actions.Throw) (λ input printed. throws_object_same input printed now)
  done_goes operand (actions.Return sort) = plainly (λ now. done now operand (actions.Return sort)) (λ input printed. returns_same input printed now sort)
  done_goes operand (actions.InvokeStatic index) = invokes_static_goes now
  done_goes operand (actions.InvokeSpecial index) = invokes_special_goes now index
  done_goes operand (actions.InvokeVirtual index) = invokes_virtual_goes now
  done_goes operand (actions.InvokeInterface index count) = invokes_interface_goes now index

-- the step, as the machine says it
abbrev standing : Machine → MethodFrame → List Frame → State → Now
standing machine frame below state =
    record { machine = machine; frame = frame; below = below; next = behind_in (code_at machine.program frame.method) frame.pc; state = state }

abbrev acting : Machine → MethodFrame → List Frame → State → Insn → Option Plan
acting machine frame below state insn = option_and_then (done (standing machine frame below state) insn.operand) (action_of insn)

abbrev beginning : Machine → State → ℕ → Option Plan
beginning machine state zero = None
beginning machine state (suc place) = entering machine state

abbrev by_frames : Machine → State → List Frame → Option Plan
by_frames machine state [] = beginning machine state state.roots.argument
by_frames machine state (OfMethod frame ∷ below) =
    option_and_then (acting machine frame below state) (insn_in (code_at machine.program frame.method) frame.pc)
by_frames machine state (Initialising class place ∷ below) = initialising machine state below class place

abbrev by_pending : Machine → State → Bool → Option Plan
by_pending machine state none = if none then by_frames machine state state.roots.frames else unwinding machine state

abbrev unless_ended : Machine → State → Option ℤ → Option Plan
unless_ended machine state None = by_pending machine state (state.roots.pending == 0)
unless_ended machine state (Some status) = None

module _ (machine : Machine) (state : State) where
  abbrev pub Turns : Bool → (State → Option Plan) → Type 0
  Turns reads piece = Goes reads plan_beside TakesOne state.input (λ input printed. piece (beside state input printed)) (piece state)

  silently : (reads : Bool) (piece : State → Option Plan) → ((input printed : List ℕ) → Same input printed (piece (beside state input printed)) (piece state)) → Turns reads piece
  silently reads piece same = plain plan_beside TakesOne state.input reads (λ input printed. piece (beside state input printed)) (piece state) same

  -- the instruction of a frame
  action_goes : (frame : MethodFrame) (below : List Frame) (operand : Operand) (action : Option Action)
      → Turns (reads_by_action machine.program state frame (named machine.program frame.method frame.pc) action)
      (λ state. option_and_then (done (standing machine frame below state) operand) action)
  action_goes frame below operand None = silently false (λ state. None) (λ input printed. refl)
  action_goes frame below operand (Some action) = done_goes (standing machine frame below state) operand action

  insn_goes : (frame : MethodFrame) (below : List Frame) (insn : Option Insn)
      → Turns (reads_by_action machine.program state frame (named machine.program frame.method frame.pc) (option_and_then (λ insn. action_of insn) insn))
      (λ state. option_and_then (acting machine frame below state) insn)
  insn_goes frame below None = silently false (λ state. None) (λ input printed. refl)
  insn_goes frame below (Some insn) = action_goes frame below insn.operand (action_of insn)

  -- the first that applies
  begins : (argument : ℕ) → Turns false (λ state. beginning machine state argument)
  begins zero = silently false (λ state. None) (λ input printed. refl)
  begins (suc place) = silently false (entering machine) (λ input printed. entering_same input printed machine state)

  frames_go : (frames : List Frame) → Turns (reads_by_frames machine.program state frames) (λ state. by_frames machine state frames)
  frames_go [] = begins state.roots.argument
  frames_go (OfMethod frame ∷ below) = insn_goes frame below (insn_in (code_at machine.program frame.method) frame.pc)
  frames_go (Initialising class place ∷ below) =
      silently false (λ state. initialising machine state below class place) (λ input printed. initialising_same input printed machine state below class place)

  pending_goes : (none : Bool) → Turns (if none then reads_by_frames machine.program state state.roots.frames else false) (λ state. by_pending machine state none)
  pending_goes true = frames_go state.roots.frames
  pending_goes false = silently false (unwinding machine) (λ input printed. unwinding_same input printed machine state)

  ended_goes : (exit : Option ℤ) → Turns (asks_input machine.program state) (λ state. unless_ended machine state exit)
  ended_goes None = pending_goes (state.roots.pending == 0)
  ended_goes (Some status) = silently (asks_input machine.program state) (λ state. None) (λ input printed. refl)

  pub plan_goes : Turns (asks_input machine.program state) (plan machine)
  plan_goes = ended_goes state.exit
