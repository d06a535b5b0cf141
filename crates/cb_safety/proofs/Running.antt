-- A typed state of a run that goes on has a next one, which is typed too, if natives have.
use Rattle.std.proofs.Common.{◌≡◌, ap, refl, sym, ℤ, ℕ, zero, suc, ◌==◌, Bool, true, false, List, [], ◌∷◌, Option, Some, None, if◌then◌else◌}
use Rattle.std.proofs.lemmas.Bool.{eqb-true, false≢true}
use Rattle.std.proofs.lemmas.Option.{option_and_then_some}
use Rattle.cb_insn.specs.declared.insn.Insn.{Insn}
use Rattle.cb_link.specs.Having.{IsWhole}
use Rattle.cb_link.specs.Named.{code_at, insn_in}
use Rattle.cb_machine.specs.Machine.{Machine}
use Rattle.cb_machine.specs.Runs.{outcome}
use Rattle.cb_machine.specs.declared.outcome.Outcome.{Outcome}
use Rattle.cb_machine.specs.declared.outcome.Outcome.TheVariants.{Exited, Returned, Running, Uncaught}
use Rattle.cb_plain.specs.State.{Frame, Initialising, MethodFrame, OfMethod, Roots, State}
use Rattle.cb_shapes.specs.Shapes.{action_of}
use Rattle.cb_shapes.specs.declared.action.Action.{Action}
use Rattle.cb_shapes.specs.declared.action.Action.TheVariants as actions
use Rattle.cb_verify.specs.Leaving.{left_with}
use Rattle.cb_verify.specs.Members.{member_at}
use Rattle.cb_verify.specs.Typed.{IsTyped}
use Rattle.cb_safety.specs.Advancing.{Advances, is_of_frame, is_of_object}
use Rattle.cb_safety.specs.Flows.{Flows}
use Rattle.cb_safety.specs.Frames.{Before}
use Rattle.cb_safety.specs.Kinds.{kinds_of}
use Rattle.cb_safety.specs.Linked.{IsLinked}
use Rattle.cb_safety.specs.Making.{is_of_arrays}
use Rattle.cb_safety.specs.Natives.{CallsNative}
use Rattle.cb_safety.specs.Ready.{is_of_statics}
use Rattle.cb_safety.specs.Sound.{IsSound}
use Rattle.cb_safety.specs.States.{IsTypedState}
use Rattle.cb_safety.proofs.Advancing.{frames_advance}
use Rattle.cb_safety.proofs.Constants.{constants_advance}
use Rattle.cb_safety.proofs.Dividing.{division_typed}
use Rattle.cb_safety.proofs.Going.{Topmost, spelled_rise, topmost}
use Rattle.cb_safety.proofs.Initialised.{initialising_advances}
use Rattle.cb_safety.proofs.Flowing.{flows}
use Rattle.cb_safety.proofs.LinkedCalls.{linked_special_calls_advance}
use Rattle.cb_safety.proofs.Linking.{linked_formed, linked_whole}
use Rattle.cb_safety.proofs.Main.{beginning_advances}
use Rattle.cb_safety.proofs.MakingArrays.{arrays_made_advance}
use Rattle.cb_safety.proofs.NewObject.{new_advances}
use Rattle.cb_safety.proofs.Objects.{objects_advance}
use Rattle.cb_safety.proofs.Returning.{returns_advance}
use Rattle.cb_safety.proofs.Sound.{linked_sound}
use Rattle.cb_safety.proofs.StaticCalls.{linked_static_calls_advance}
use Rattle.cb_safety.proofs.StaticFields.{statics_advance}
use Rattle.cb_safety.proofs.Throws.{throw_advances}
use Rattle.cb_safety.proofs.Unwinding.{unwinding_advances}
use Rattle.cb_safety.proofs.VirtualCalls.{interface_calls_advance, virtual_calls_advance}

module _ (machine : Machine) (state : State) (linked : IsLinked machine.program) (fits : IsTyped machine.program)
    (natives : (frame : MethodFrame) (below : List Frame) → state.roots.pending ≡ 0 → state.roots.frames ≡ OfMethod frame ∷ below → CallsNative machine state frame below → Advances machine state)
    (typed : IsTypedState machine.program state) (runs : state.exit ≡ None) where
  sound : IsSound machine.program
  sound = linked_sound machine.program linked fits

  whole : IsWhole machine.program
  whole = linked_whole machine.program linked

  -- ---- at an instruction

  module _ (idle : state.roots.pending ≡ 0) (frame : MethodFrame) (below : List Frame) (frames : state.roots.frames ≡ OfMethod frame ∷ below) (insn : Insn)
      (there : insn_in (code_at machine.program frame.method) frame.pc ≡ Some insn) where
    of_frame : (action : Action) → action_of insn ≡ Some action → is_of_frame action ≡ true → Advances machine state
    of_frame action so is =
        frames_advance machine state frame below insn action fits sound.spelled sound.holds_on typed runs idle frames there so is
        (division_typed machine state sound.constants sound.message sound.thrown typed)

    of_object : (action : Action) → action_of insn ≡ Some action → is_of_object action ≡ true → Advances machine state
    of_object action so is =
        objects_advance machine state frame below insn action fits sound.spelled sound.holds_on sound.holds_through sound.holds_elements sound.fields sound.kinds sound.thrown typed
        runs idle frames there so is

    of_static : (action : Action) → action_of insn ≡ Some action → is_of_statics action ≡ true → Advances machine state
    of_static action so is =
        statics_advance machine state frame below insn action fits sound.spelled sound.holds_on whole sound.statics sound.constants sound.thrown typed runs idle frames there so is

    of_arrays : (action : Action) → action_of insn ≡ Some action → is_of_arrays action ≡ true → Advances machine state
    of_arrays action so is =
        arrays_made_advance machine state frame below insn action fits sound.spelled sound.holds_on whole sound.holds_own sound.thrown typed runs idle frames there so is

    by_action : (action : Action) → action_of insn ≡ Some action → Advances machine state
    by_action (actions.Compute computation) so = of_frame (actions.Compute computation) so refl
    by_action actions.Null so = of_frame actions.Null so refl
    by_action (actions.Load sort local) so = of_frame (actions.Load sort local) so refl
    by_action (actions.Store sort local) so = of_frame (actions.Store sort local) so refl
    by_action (actions.Increase local by) so = of_frame (actions.Increase local by) so refl
    by_action (actions.Shuffle shuffle) so = of_frame (actions.Shuffle shuffle) so refl
    by_action (actions.Branch condition) so = of_frame (actions.Branch condition) so refl
    by_action actions.Switch so = of_frame actions.Switch so refl
    by_action (actions.GetField index) so = of_object (actions.GetField index) so refl
    by_action (actions.PutField index) so = of_object (actions.PutField index) so refl
    by_action actions.Length so = of_object actions.Length so refl
    by_action (actions.LoadNumber elements) so = of_object (actions.LoadNumber elements) so refl
    by_action (actions.StoreNumber elements) so = of_object (actions.StoreNumber elements) so refl
    by_action actions.LoadReference so = of_object actions.LoadReference so refl
    by_action actions.StoreReference so = of_object actions.StoreReference so refl
    by_action (actions.Cast index) so = of_object (actions.Cast index) so refl
    by_action (actions.IsInstance index) so = of_object (actions.IsInstance index) so refl
    by_action (actions.GetStatic index) so = of_static (actions.GetStatic index) so refl
    by_action (actions.PutStatic index) so = of_static (actions.PutStatic index) so refl
    by_action (actions.NewNumbers code) so = of_arrays (actions.NewNumbers code) so refl
    by_action (actions.NewReferences index) so = of_arrays (actions.NewReferences index) so refl
    by_action (actions.NewArrays index dimensions) so = of_arrays (actions.NewArrays index dimensions) so refl
    by_action (actions.New index) so =
        new_advances machine state frame below insn index fits sound.spelled sound.holds_on whole sound.classes sound.constants sound.thrown typed runs idle frames there so
    by_action (actions.Constant index) so =
        constants_advance machine state frame below insn index fits sound.spelled sound.holds_on whole (linked_formed machine.program linked) sound.constants sound.class_objects typed runs idle frames there so
    by_action (actions.Return sort) so = returns_advance machine state frame below insn sort fits sound.spelled sound.holds_on typed runs idle frames there so
    by_action actions.Throw so = throw_advances machine state frame below insn fits sound.spelled sound.holds_on sound.thrown typed runs idle frames there so
    by_action (actions.InvokeStatic index) so = linked_static_calls_advance machine state frame below insn index linked fits typed runs idle frames there so (natives frame below idle frames)
    by_action (actions.InvokeSpecial index) so = linked_special_calls_advance machine state frame below insn index linked fits typed runs idle frames there so (natives frame below idle frames)
    by_action (actions.InvokeVirtual index) so = virtual_calls_advance machine state frame below insn linked fits typed runs idle frames there index so (natives frame below idle frames)
    by_action (actions.InvokeInterface index count) so = interface_calls_advance machine state frame below insn linked fits typed runs idle frames there index count so (natives frame below idle frames)

  executing : state.roots.pending ≡ 0 → (frame : MethodFrame) (below : List Frame) → state.roots.frames ≡ OfMethod frame ∷ below → Advances machine state
  executing idle frame below frames =
      let top : Topmost machine.program (kinds_of state.objects) frame below = topmost machine.program state frame below typed idle frames in
      let at : Before machine.program frame = top.stands.at in
      let flow : Flows machine.program frame.method frame.pc at.types = flows machine.program frame.method frame.pc at.types fits (spelled_rise machine.program sound.spelled) at.before in
      option_and_then_some (λ (action : Action). left_with flow.method frame.pc (member_at flow.method frame.pc) action at.types) (action_of flow.insn) flow.after flow.leaves
      (λ action acts rest. by_action idle frame below frames flow.insn flow.there action acts)

  -- ---- by what stands

  by_pending : (first : Frame) (below : List Frame) → state.roots.frames ≡ first ∷ below → (pending : ℕ) → state.roots.pending ≡ pending → Advances machine state
  by_pending first below frames (suc place) is =
      unwinding_advances machine state place first below fits sound.spelled sound.holds_on sound.thrown sound.cause typed runs is frames
  by_pending (OfMethod frame) below frames zero is = executing is frame below frames
  by_pending (Initialising class place) below frames zero is =
      initialising_advances machine state class place below sound.constants sound.thrown sound.initialisers typed runs is frames

  begins : state.roots.frames ≡ [] → state.roots.pending ≡ 0 → (argument : ℕ) → state.roots.argument ≡ argument → (argument == 0) ≡ false → Advances machine state
  begins frames idle zero waits some = absurd (false≢true (sym some))
  begins frames idle (suc place) waits some =
      beginning_advances machine state place fits sound.spelled sound.holds_on sound.code whole sound.constants sound.thrown sound.main typed runs idle frames waits

-- ---- a run that goes on

abbrev goes_on : Outcome → Bool
goes_on Running = true
goes_on other = false

abbrev without_frames : Roots → Outcome
without_frames roots = if roots.pending == 0 then (if roots.argument == 0 then Returned else Running) else Uncaught roots.pending

abbrev by_frames : Roots → List Frame → Outcome
by_frames roots [] = without_frames roots
by_frames roots (frame ∷ below) = Running

abbrev by_exit : Roots → Option ℤ → Outcome
by_exit roots None = by_frames roots roots.frames
by_exit roots (Some status) = Exited status

pub running_advances : (machine : Machine) (state : State) → IsLinked machine.program → IsTyped machine.program
    → IsTypedState machine.program state → outcome state ≡ Running
    → ((frame : MethodFrame) (below : List Frame) → state.roots.pending ≡ 0 → state.roots.frames ≡ OfMethod frame ∷ below → CallsNative machine state frame below → Advances machine state)
    → Advances machine state
running_advances machine state linked fits typed is natives = by_end state.exit refl is where
  waiting : state.exit ≡ None → state.roots.frames ≡ [] → (idle waits : Bool) → (state.roots.pending == 0) ≡ idle → (state.roots.argument == 0) ≡ waits
      → (if idle then (if waits then Returned else Running) else Uncaught state.roots.pending) ≡ Running → Advances machine state
  waiting runs frames true true idle waits is = absurd (false≢true (ap goes_on is))
  waiting runs frames true false idle waits is =
      begins machine state linked fits natives typed runs frames (eqb-true state.roots.pending 0 idle) state.roots.argument refl waits
  waiting runs frames false waits idle none is = absurd (false≢true (ap goes_on is))

  standing : state.exit ≡ None → (frames : List Frame) → state.roots.frames ≡ frames → by_frames state.roots frames ≡ Running → Advances machine state
  standing runs [] frames is = waiting runs frames (state.roots.pending == 0) (state.roots.argument == 0) refl refl is
  standing runs (first ∷ below) frames is = by_pending machine state linked fits natives typed runs first below frames state.roots.pending refl

  by_end : (exit : Option ℤ) → state.exit ≡ exit → by_exit state.roots exit ≡ Running → Advances machine state
  by_end None runs is = standing runs state.roots.frames refl is
  by_end (Some status) runs is = absurd (false≢true (ap goes_on is))
