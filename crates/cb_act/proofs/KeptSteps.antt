-- A step of a state of which only some objects are kept is what is kept of the step.
use Rattle.std.proofs.Common.{◌≡◌, ◌∙◌, ap, refl, ℕ, ℤ, Bool, true, false, List, [], ◌∷◌, length, Option, Some, None, zero, suc}
use Rattle.std.specs.Prelude.{option_and_then, option_map, ◌==◌, if◌then◌else◌}
use Rattle.std.specs.List.{find}
use Rattle.cb_classfile.specs.declared.body.Body.{Body}
use Rattle.cb_classfile.specs.declared.handler.Handler.{Handler}
use Rattle.cb_heap.proofs.Laws.{pending_of}
use Rattle.cb_insn.specs.declared.insn.Insn.{Insn}
use Rattle.cb_insn.specs.declared.insn.Operand.{Operand}
use Rattle.cb_link.specs.Named.{behind_in, code_at, handlers_at, insn_in}
use Rattle.cb_link.specs.Subtypes.{instance}
use Rattle.cb_machine.specs.Entering.{entered_from}
use Rattle.cb_machine.specs.Initialising.{initialising, once_ready}
use Rattle.cb_machine.specs.Library.{error}
use Rattle.cb_machine.specs.Machine.{Machine, body_of, class_declaring}
use Rattle.cb_machine.specs.Plans.{Plan, leaving}
use Rattle.cb_machine.specs.Sites.{exception_in_initializer}
use Rattle.cb_machine.specs.Standing.{Now, at_place}
use Rattle.cb_machine.specs.Steps.{done}
use Rattle.cb_machine.specs.Throwing.{throwing_with}
use Rattle.cb_machine.specs.Unwinding.{takes, unwinding}
use Rattle.cb_plain.specs.declared.class_state.ClassState.TheVariants.{Failed}
use Rattle.cb_plain.specs.declared.value.Value.TheVariants.{Ref}
use Rattle.cb_plain.specs.State.{Frame, Initialising, MethodFrame, Object, OfMethod, State}
use Rattle.cb_plain.specs.Updates.{object_at, with_argument, with_class, with_frames, with_pending}
use Rattle.cb_shapes.specs.Shapes.{action_of}
use Rattle.cb_shapes.specs.declared.action.Action.{Action}
use Rattle.cb_shapes.specs.declared.action.Action.TheVariants as actions
use Rattle.cb_act.specs.Changing.{Change, Changes, ChangesPlan, IsHere, IsUnseen, NativesChange, changed_plan, changed_state}
use Rattle.cb_act.proofs.KeptCalls.{invokes_interface_kept, invokes_special_kept, invokes_static_kept, invokes_virtual_kept}
use Rattle.cb_act.proofs.KeptFrames.{branches_kept, computes_kept, constant_loaded_kept, increases_kept, loads_kept, null_kept, returns_kept, shuffles_kept, stores_kept, switches_kept}
use Rattle.cb_act.proofs.KeptGoing.{leaving_kept, then_kept}
use Rattle.cb_act.proofs.KeptInit.{entered_kept, initialising_kept, ready_kept}
use Rattle.cb_act.proofs.KeptMaking.{gets_static_kept, makes_arrays_kept, makes_kept, puts_static_kept}
use Rattle.cb_act.proofs.KeptObjects.{asks_kept, casts_kept, gets_kept, loads_element_kept, measures_kept, puts_kept, stores_element_kept, stores_reference_kept, throws_object_kept}

-- an instruction
module _ (change : Change) (test : ℕ → Bool) (now : Now) (here : IsHere change test now) (natives : NativesChange now.machine change test now.state) where
  same : length (change now.state.objects) ≡ length now.state.objects
  same = here.unseen.count

  pub done_kept : (operand : Operand) (action : Action) → Changes change now (λ now. done now operand action)
  done_kept operand (actions.Compute computation) = computes_kept change now same computation
  done_kept operand actions.Null = null_kept change now same
  done_kept operand (actions.Constant index) = constant_loaded_kept change now same
  done_kept operand (actions.Load sort local) = loads_kept change now same sort local
  done_kept operand (actions.Store sort local) = stores_kept change now same sort local
  done_kept operand (actions.Increase local by) = increases_kept change now same local by
  done_kept operand (actions.Shuffle shuffle) = shuffles_kept change now same shuffle
  done_kept operand (actions.Branch condition) = branches_kept change now same condition operand
  done_kept operand actions.Switch = switches_kept change now same operand
  done_kept operand (actions.LoadNumber elements) = loads_element_kept change test now here
  done_kept operand (actions.StoreNumber elements) = stores_element_kept change test now here elements
  done_kept operand actions.Length = measures_kept change test now here
  done_kept operand actions.LoadReference = loads_element_kept change test now here
  done_kept operand actions.StoreReference = stores_reference_kept change test now here
  done_kept operand (actions.GetField index) = gets_kept change test now here
  done_kept operand (actions.PutField index) = puts_kept change test now here
  done_kept operand (actions.GetStatic index) = gets_static_kept change now same
  done_kept operand (actions.PutStatic index) = puts_static_kept change now same
  done_kept operand (actions.New index) = makes_kept change now same
  done_kept operand (actions.NewNumbers code) = makes_arrays_kept change now same 1
  done_kept operand (actions.NewReferences index) = makes_arrays_kept change now same 1
  done_kept operand (actions.NewArrays index dimensions) = makes_arrays_kept change now same dimensions
  done_kept operand (actions.Cast index) = casts_kept change test now here
  done_kept operand (actions.IsInstance index) = asks_kept change test now here
  done_kept operand actions.Throw = throws_object_kept change test now here
  done_kept operand (actions.Return sort) = returns_kept change now same sort
  done_kept operand (actions.InvokeStatic index) = invokes_static_kept change test now here natives
  done_kept operand (actions.InvokeSpecial index) = invokes_special_kept change test now here natives index
  done_kept operand (actions.InvokeVirtual index) = invokes_virtual_kept change test now here natives
  done_kept operand (actions.InvokeInterface index count) = invokes_interface_kept change test now here natives index

-- what a pending exception goes through
abbrev pub caught_by : State → MethodFrame → List Frame → ℕ → Option Handler → Plan
caught_by state frame below serial None = leaving (with_frames state below)
caught_by state frame below serial (Some handler) =
    leaving (with_pending (with_frames state (OfMethod (at_place frame handler.handler frame.locals (Ref serial ∷ [])) ∷ below)) 0)

abbrev pub through_method : Machine → State → MethodFrame → List Frame → ℕ → ℕ → Plan
through_method machine state frame below serial kind =
    caught_by state frame below serial
    (find (takes machine.program (class_declaring machine.program frame.method) frame.pc kind) (handlers_at machine.program frame.method))

abbrev pub failed : State → List Frame → ℕ → State
failed state below class = with_class (with_frames state below) class Failed

abbrev pub through_class : Machine → State → List Frame → ℕ → ℕ → ℕ → Plan
through_class machine state below class serial kind =
    if instance machine.program kind error then leaving (failed state below class)
    else throwing_with machine exception_in_initializer 0 serial (leaving (failed state below class))

abbrev pub through : Machine → State → ℕ → ℕ → List Frame → Option Plan
through machine state serial kind [] = None
through machine state serial kind (OfMethod frame ∷ below) = Some (through_method machine state frame below serial kind)
through machine state serial kind (Initialising class place ∷ below) = Some (through_class machine state below class serial kind)

module _ (machine : Machine) (change : Change) (test : ℕ → Bool) (state : State) (unseen : IsUnseen change test state) where
  even : length (change state.objects) ≡ length state.objects
  even = unseen.count

  caught_kept : (frame : MethodFrame) (below : List Frame) (serial : ℕ) (found : Option Handler)
      → caught_by (changed_state change state) frame below serial found ≡ changed_plan change (caught_by state frame below serial found)
  caught_kept frame below serial None = leaving_kept change (with_frames state below) even
  caught_kept frame below serial (Some handler) =
      leaving_kept change (with_pending (with_frames state (OfMethod (at_place frame handler.handler frame.locals (Ref serial ∷ [])) ∷ below)) 0) even

  class_kept : (below : List Frame) (class serial kind : ℕ)
      → through_class machine (changed_state change state) below class serial kind ≡ changed_plan change (through_class machine state below class serial kind)
  class_kept below class serial kind = by (instance machine.program kind error) refl where
    by : (is : Bool) → instance machine.program kind error ≡ is
        → through_class machine (changed_state change state) below class serial kind ≡ changed_plan change (through_class machine state below class serial kind)
    by true is = rw is (leaving_kept change (failed state below class) even)
    by false is = rw is (ap (throwing_with machine exception_in_initializer 0 serial) (leaving_kept change (failed state below class) even))

  through_kept : (serial kind : ℕ) (frames : List Frame)
      → through machine (changed_state change state) serial kind frames ≡ option_map (changed_plan change) (through machine state serial kind frames)
  through_kept serial kind [] = refl
  through_kept serial kind (OfMethod frame ∷ below) =
      ap Some (caught_kept frame below serial
      (find (takes machine.program (class_declaring machine.program frame.method) frame.pc kind) (handlers_at machine.program frame.method)))
  through_kept serial kind (Initialising class place ∷ below) = ap Some (class_kept below class serial kind)

  pub unwinding_kept : unwinding machine (changed_state change state) ≡ option_map (changed_plan change) (unwinding machine state)
  unwinding_kept =
      ap (option_and_then (λ (object : Object). through machine (changed_state change state) state.roots.pending object.kind state.roots.frames))
      (unseen.same state.roots.pending (pending_of test state.roots unseen.roots))
      ∙ then_kept change (λ (object : Object). through machine (changed_state change state) state.roots.pending object.kind state.roots.frames)
      (λ (object : Object). through machine state state.roots.pending object.kind state.roots.frames)
      (λ object. through_kept state.roots.pending object.kind state.roots.frames) (object_at state state.roots.pending)

  -- main
  abbrev entering : State → Option Plan
  entering state =
      once_ready machine state machine.program.main_class
      (option_map (entered_from machine state (with_argument state 0) [] machine.program.main_method (Ref state.roots.argument ∷ []))
      (body_of machine.program machine.program.main_method))

  main_kept : (body : Option Body)
      → option_map (entered_from machine (changed_state change state) (with_argument (changed_state change state) 0) [] machine.program.main_method (Ref state.roots.argument ∷ [])) body
      ≡ option_map (changed_plan change) (option_map (entered_from machine state (with_argument state 0) [] machine.program.main_method (Ref state.roots.argument ∷ [])) body)
  main_kept None = refl
  main_kept (Some body) = ap Some (entered_kept change machine state even (with_argument state 0) even [] machine.program.main_method (Ref state.roots.argument ∷ []) body)

  entering_kept : entering (changed_state change state) ≡ option_map (changed_plan change) (entering state)
  entering_kept =
      ready_kept change machine state even machine.program.main_class
      (option_map (entered_from machine (changed_state change state) (with_argument (changed_state change state) 0) [] machine.program.main_method (Ref state.roots.argument ∷ []))
      (body_of machine.program machine.program.main_method))
      (option_map (entered_from machine state (with_argument state 0) [] machine.program.main_method (Ref state.roots.argument ∷ []))
      (body_of machine.program machine.program.main_method))
      (main_kept (body_of machine.program machine.program.main_method))

  -- a method that runs
  abbrev standing : State → MethodFrame → List Frame → Now
  standing state frame below =
      record { machine = machine; frame = frame; below = below; next = behind_in (code_at machine.program frame.method) frame.pc; state = state }

  abbrev acting : State → MethodFrame → List Frame → Insn → Option Plan
  acting state frame below insn = option_and_then (done (standing state frame below) insn.operand) (action_of insn)

  executing_kept : NativesChange machine change test state → (frame : MethodFrame) (below : List Frame) → state.roots.frames ≡ OfMethod frame ∷ below
      → option_and_then (acting (changed_state change state) frame below) (insn_in (code_at machine.program frame.method) frame.pc)
      ≡ option_map (changed_plan change) (option_and_then (acting state frame below) (insn_in (code_at machine.program frame.method) frame.pc))
  executing_kept natives frame below is =
      then_kept change (acting (changed_state change state) frame below) (acting state frame below)
      (λ insn. then_kept change (done (standing (changed_state change state) frame below) insn.operand) (done (standing state frame below) insn.operand)
      (λ action. done_kept change test (standing state frame below) (record { unseen = unseen; frames = is }) natives insn.operand action) (action_of insn))
      (insn_in (code_at machine.program frame.method) frame.pc)

  -- the step
  abbrev beginning : State → ℕ → Option Plan
  beginning state zero = None
  beginning state (suc place) = entering state

  abbrev by_frames : State → List Frame → Option Plan
  by_frames state [] = beginning state state.roots.argument
  by_frames state (OfMethod frame ∷ below) =
      option_and_then (acting state frame below) (insn_in (code_at machine.program frame.method) frame.pc)
  by_frames state (Initialising class place ∷ below) = initialising machine state below class place

  abbrev by_pending : State → Bool → Option Plan
  by_pending state none = if none then by_frames state state.roots.frames else unwinding machine state

  abbrev unless_ended : State → Option ℤ → Option Plan
  unless_ended state None = by_pending state (state.roots.pending == 0)
  unless_ended state (Some status) = None

  beginning_kept : (argument : ℕ) → beginning (changed_state change state) argument ≡ option_map (changed_plan change) (beginning state argument)
  beginning_kept zero = refl
  beginning_kept (suc place) = entering_kept

  frames_kept : NativesChange machine change test state → (frames : List Frame) → state.roots.frames ≡ frames
      → by_frames (changed_state change state) frames ≡ option_map (changed_plan change) (by_frames state frames)
  frames_kept natives [] is = beginning_kept state.roots.argument
  frames_kept natives (OfMethod frame ∷ below) is = executing_kept natives frame below is
  frames_kept natives (Initialising class place ∷ below) is = initialising_kept change machine state even below class place

  pending_kept : NativesChange machine change test state → (none : Bool) → by_pending (changed_state change state) none ≡ option_map (changed_plan change) (by_pending state none)
  pending_kept natives true = frames_kept natives state.roots.frames refl
  pending_kept natives false = unwinding_kept

  ended_kept : NativesChange machine change test state → (exit : Option ℤ)
      → unless_ended (changed_state change state) exit ≡ option_map (changed_plan change) (unless_ended state exit)
  ended_kept natives None = pending_kept natives (state.roots.pending == 0)
  ended_kept natives (Some status) = refl

  pub plan_kept : NativesChange machine change test state → ChangesPlan machine change state
  plan_kept natives = ended_kept natives state.exit
