-- References pass in a step.
use Rattle.std.proofs.Common.{◌≡◌, refl, ℕ, ℤ, Bool, true, false, List, [], ◌∷◌, ◌++◌, Option, Some, None, zero, suc}
use Rattle.std.specs.Prelude.{option_and_then, option_map, ◌==◌, if◌then◌else◌}
use Rattle.std.specs.List.{find, flat_map}
use Rattle.cb_classfile.specs.declared.body.Body.{Body}
use Rattle.cb_classfile.specs.declared.handler.Handler.{Handler}
use Rattle.cb_insn.specs.declared.insn.Insn.{Insn}
use Rattle.cb_insn.specs.declared.insn.Operand.{Operand}
use Rattle.cb_link.specs.Named.{behind_in, code_at, handlers_at, insn_in}
use Rattle.cb_link.specs.Subtypes.{instance}
use Rattle.cb_machine.specs.Entering.{entered_from}
use Rattle.cb_machine.specs.Initialising.{initialising, once_ready}
use Rattle.cb_machine.specs.Library.{error}
use Rattle.cb_machine.specs.Machine.{Machine, body_of, class_declaring}
use Rattle.cb_machine.specs.Plans.{Plan, leaving}
use Rattle.cb_machine.specs.Sites.{exception_in_initializer}
use Rattle.cb_machine.specs.Standing.{Now, at_place}
use Rattle.cb_machine.specs.Steps.{done, plan}
use Rattle.cb_machine.specs.Unwinding.{takes, unwinding}
use Rattle.cb_plain.specs.declared.class_state.ClassState.TheVariants.{Failed}
use Rattle.cb_plain.specs.declared.value.Value.TheVariants.{Ref}
use Rattle.cb_plain.specs.Reach.{frame_references, references_in, unless_null}
use Rattle.cb_plain.specs.State.{Frame, Initialising, MethodFrame, Object, OfMethod, State}
use Rattle.cb_plain.specs.Updates.{object_at, with_argument, with_frames, with_pending}
use Rattle.cb_shapes.specs.Shapes.{action_of}
use Rattle.cb_shapes.specs.declared.action.Action.{Action}
use Rattle.cb_shapes.specs.declared.action.Action.TheVariants as actions
use Rattle.cb_act.specs.Within.{HasNumbers, IsPlanWithin, IsWithin, NativesWithin, Pass, Within, WithinHere}
use Rattle.cb_act.proofs.KeptObjects.{parts}
use Rattle.cb_act.proofs.KeptSteps.{caught_by, failed, through, through_class}
use Rattle.cb_act.proofs.WithinBasics.{both, left_within, pended, then_within, throwing_within}
use Rattle.cb_act.proofs.WithinCalls.{invokes_interface_within, invokes_special_within, invokes_static_within, invokes_virtual_within}
use Rattle.cb_act.proofs.WithinFrames.{branches_within, computes_within, constant_loaded_within, increases_within, loads_within, null_within, returns_within, shuffles_within, stores_within, switches_within}
use Rattle.cb_act.proofs.WithinInit.{classed_within, entered_from_within, framed_within, initialising_within, ready_within}
use Rattle.cb_act.proofs.WithinMaking.{gets_static_within, makes_arrays_within, makes_within, puts_static_within}
use Rattle.cb_act.proofs.WithinObjects.{asks_within, casts_within, gets_within, loads_element_within, measures_within, puts_within, stores_element_within, stores_reference_within, throws_object_within}

-- an instruction
module _ (ok : ℕ → Bool) (now : Now) (here : WithinHere ok now) (numbers : HasNumbers ok now.machine.program) (natives : NativesWithin now.machine ok now.state) where
  done_within : (operand : Operand) (action : Action) → Within ok (done now operand action)
  done_within operand (actions.Compute computation) = computes_within ok now here computation
  done_within operand actions.Null = null_within ok now here
  done_within operand (actions.Constant index) = constant_loaded_within ok now here numbers
  done_within operand (actions.Load sort local) = loads_within ok now here sort local
  done_within operand (actions.Store sort local) = stores_within ok now here sort local
  done_within operand (actions.Increase local by) = increases_within ok now here local by
  done_within operand (actions.Shuffle shuffle) = shuffles_within ok now here shuffle
  done_within operand (actions.Branch condition) = branches_within ok now here condition operand
  done_within operand actions.Switch = switches_within ok now here operand
  done_within operand (actions.LoadNumber elements) = loads_element_within ok now here
  done_within operand (actions.StoreNumber elements) = stores_element_within ok now here elements
  done_within operand actions.Length = measures_within ok now here
  done_within operand actions.LoadReference = loads_element_within ok now here
  done_within operand actions.StoreReference = stores_reference_within ok now here
  done_within operand (actions.GetField index) = gets_within ok now here
  done_within operand (actions.PutField index) = puts_within ok now here
  done_within operand (actions.GetStatic index) = gets_static_within ok now here numbers
  done_within operand (actions.PutStatic index) = puts_static_within ok now here numbers
  done_within operand (actions.New index) = makes_within ok now here numbers
  done_within operand (actions.NewNumbers code) = makes_arrays_within ok now here 1
  done_within operand (actions.NewReferences index) = makes_arrays_within ok now here 1
  done_within operand (actions.NewArrays index dimensions) = makes_arrays_within ok now here dimensions
  done_within operand (actions.Cast index) = casts_within ok now here
  done_within operand (actions.IsInstance index) = asks_within ok now here
  done_within operand actions.Throw = throws_object_within ok now here
  done_within operand (actions.Return sort) = returns_within ok now here sort
  done_within operand (actions.InvokeStatic index) = invokes_static_within ok now here numbers natives
  done_within operand (actions.InvokeSpecial index) = invokes_special_within ok now here numbers natives index
  done_within operand (actions.InvokeVirtual index) = invokes_virtual_within ok now here numbers natives
  done_within operand (actions.InvokeInterface index count) = invokes_interface_within ok now here numbers natives index

module _ (ok : ℕ → Bool) (machine : Machine) (state : State) (is : IsWithin ok state) where
  -- a pending exception
  pended_within : (left : State) (serial : ℕ) → IsWithin ok left → Pass ok (unless_null serial) → IsWithin ok (with_pending left serial)
  pended_within left serial own pass = record { roots = pended ok left.roots serial own.roots pass; objects = own.objects; next = own.next }

  caught_within : (frame : MethodFrame) (below : List Frame) (serial : ℕ) → Pass ok (unless_null serial) → Pass ok (flat_map frame_references (OfMethod frame ∷ below))
      → (found : Option Handler) → IsPlanWithin ok (caught_by state frame below serial found)
  caught_within frame below serial pass all None =
      let own = parts ok (references_in frame.locals ++ references_in frame.stack) (flat_map frame_references below) all in
      left_within ok (with_frames state below) (framed_within ok state below is own.1)
  caught_within frame below serial pass all (Some handler) =
      let own = parts ok (references_in frame.locals ++ references_in frame.stack) (flat_map frame_references below) all in
      let locals = (parts ok (references_in frame.locals) (references_in frame.stack) own.0).0 in
      let caught : Frame = OfMethod (at_place frame handler.handler frame.locals (Ref serial ∷ [])) in
      left_within ok (with_pending (with_frames state (caught ∷ below)) 0)
      (pended_within (with_frames state (caught ∷ below)) 0
      (framed_within ok state (caught ∷ below) is
      (both ok (frame_references caught) (flat_map frame_references below)
      (both ok (references_in frame.locals) (references_in (Ref serial ∷ [])) locals (both ok (unless_null serial) [] pass refl)) own.1)) refl)

  class_within : (below : List Frame) (class serial kind : ℕ) → Pass ok (unless_null serial) → Pass ok (flat_map frame_references below)
      → IsPlanWithin ok (through_class machine state below class serial kind)
  class_within below class serial kind pass all = by (instance machine.program kind error) refl where
    own : IsPlanWithin ok (leaving (failed state below class))
    own = left_within ok (failed state below class) (classed_within ok (with_frames state below) class Failed (framed_within ok state below is all))

    by : (kin : Bool) → instance machine.program kind error ≡ kin → IsPlanWithin ok (through_class machine state below class serial kind)
    by true kin = rw kin own
    by false kin = rw kin (throwing_within ok machine exception_in_initializer 0 serial (leaving (failed state below class)) own refl pass)

  through_within : (serial kind : ℕ) → Pass ok (unless_null serial) → (frames : List Frame) → Pass ok (flat_map frame_references frames) → Within ok (through machine state serial kind frames)
  through_within serial kind pass [] all = tt
  through_within serial kind pass (OfMethod frame ∷ below) all =
      caught_within frame below serial pass all
      (find (takes machine.program (class_declaring machine.program frame.method) frame.pc kind) (handlers_at machine.program frame.method))
  through_within serial kind pass (Initialising class place ∷ below) all = class_within below class serial kind pass all

  unwinding_within : Within ok (unwinding machine state)
  unwinding_within =
      then_within ok (λ (object : Object). through machine state state.roots.pending object.kind state.roots.frames) (object_at state state.roots.pending)
      (λ object there. through_within state.roots.pending object.kind is.roots.pending state.roots.frames is.roots.frames)

  module _ (numbers : HasNumbers ok machine.program) (natives : NativesWithin machine ok state) where
    -- main
    started_within : IsWithin ok (with_argument state 0)
    started_within = record {
      roots = record { frames = is.roots.frames; statics = is.roots.statics; tables = is.roots.tables; pending = is.roots.pending; argument = refl };
      objects = is.objects;
      next = is.next;
    }

    main_within : (body : Option Body)
        → Within ok (option_map (entered_from machine state (with_argument state 0) [] machine.program.main_method (Ref state.roots.argument ∷ [])) body)
    main_within None = tt
    main_within (Some body) =
        entered_from_within ok machine state (with_argument state 0) [] machine.program.main_method (Ref state.roots.argument ∷ []) body is started_within refl
        (both ok (unless_null state.roots.argument) [] is.roots.argument refl)

    abbrev entering : Option Plan
    entering =
        once_ready machine state machine.program.main_class
        (option_map (entered_from machine state (with_argument state 0) [] machine.program.main_method (Ref state.roots.argument ∷ []))
        (body_of machine.program machine.program.main_method))

    entering_within : Within ok entering
    entering_within =
        ready_within ok machine numbers state machine.program.main_class
        (option_map (entered_from machine state (with_argument state 0) [] machine.program.main_method (Ref state.roots.argument ∷ []))
        (body_of machine.program machine.program.main_method)) is (main_within (body_of machine.program machine.program.main_method))

    -- a method that runs
    abbrev standing : MethodFrame → List Frame → Now
    standing frame below =
        record { machine = machine; frame = frame; below = below; next = behind_in (code_at machine.program frame.method) frame.pc; state = state }

    abbrev acting : MethodFrame → List Frame → Insn → Option Plan
    acting frame below insn = option_and_then (done (standing frame below) insn.operand) (action_of insn)

    executing_within : (frame : MethodFrame) (below : List Frame) → Pass ok (flat_map frame_references (OfMethod frame ∷ below))
        → Within ok (option_and_then (acting frame below) (insn_in (code_at machine.program frame.method) frame.pc))
    executing_within frame below all =
        let own = parts ok (references_in frame.locals ++ references_in frame.stack) (flat_map frame_references below) all in
        let top = parts ok (references_in frame.locals) (references_in frame.stack) own.0 in
        let here : WithinHere ok (standing frame below) = record { state = is; locals = top.0; stack = top.1; below = own.1 } in
        then_within ok (acting frame below) (insn_in (code_at machine.program frame.method) frame.pc)
        (λ insn there. then_within ok (done (standing frame below) insn.operand) (action_of insn)
        (λ action so. done_within ok (standing frame below) here numbers natives insn.operand action))

    -- the step
    abbrev beginning : ℕ → Option Plan
    beginning zero = None
    beginning (suc place) = entering

    abbrev by_frames : List Frame → Option Plan
    by_frames [] = beginning state.roots.argument
    by_frames (OfMethod frame ∷ below) = option_and_then (acting frame below) (insn_in (code_at machine.program frame.method) frame.pc)
    by_frames (Initialising class place ∷ below) = initialising machine state below class place

    abbrev by_pending : Bool → Option Plan
    by_pending none = if none then by_frames state.roots.frames else unwinding machine state

    abbrev unless_ended : Option ℤ → Option Plan
    unless_ended None = by_pending (state.roots.pending == 0)
    unless_ended (Some status) = None

    beginning_within : (argument : ℕ) → Within ok (beginning argument)
    beginning_within zero = tt
    beginning_within (suc place) = entering_within

    frames_within : (frames : List Frame) → Pass ok (flat_map frame_references frames) → Within ok (by_frames frames)
    frames_within [] all = beginning_within state.roots.argument
    frames_within (OfMethod frame ∷ below) all = executing_within frame below all
    frames_within (Initialising class place ∷ below) all = initialising_within ok machine numbers state below class place is all

    pending_within : (none : Bool) → Within ok (by_pending none)
    pending_within true = frames_within state.roots.frames is.roots.frames
    pending_within false = unwinding_within

    ended_within : (exit : Option ℤ) → Within ok (unless_ended exit)
    ended_within None = pending_within (state.roots.pending == 0)
    ended_within (Some status) = tt

    pub plan_within : Within ok (plan machine state)
    plan_within = ended_within state.exit
