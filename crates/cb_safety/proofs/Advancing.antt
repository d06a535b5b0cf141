-- A typed state advances at an instruction that changes the topmost frame alone.
use Rattle.std.proofs.Common.{◌≡◌, ◌∷◌, true, List, Some, None}
use Rattle.std.proofs.lemmas.Bool.{false≢true}
use Rattle.cb_insn.specs.declared.insn.Insn.{Insn}
use Rattle.cb_link.specs.Named.{code_at, insn_in}
use Rattle.cb_machine.specs.Computing.{throws_by_zero}
use Rattle.cb_machine.specs.Machine.{Machine}
use Rattle.cb_machine.specs.Plans.{made}
use Rattle.cb_machine.specs.Steps.{done}
use Rattle.cb_plain.specs.State.{Frame, MethodFrame, OfMethod, State}
use Rattle.cb_shapes.specs.Shapes.{action_of}
use Rattle.cb_shapes.specs.declared.action.Action.{Action}
use Rattle.cb_shapes.specs.declared.action.Action.TheVariants as actions
use Rattle.cb_verify.specs.Typed.{IsTyped}
use Rattle.cb_safety.specs.Advancing.{Advances, HoldsOn, IsSpelled, is_of_frame}
use Rattle.cb_safety.specs.States.{IsTypedState}
use Rattle.cb_safety.proofs.Elsewhere.{branch_advances, switch_advances}
use Rattle.cb_safety.proofs.Going.{Planned, Stage, advances_by, now_at, running, stage_of}
use Rattle.cb_safety.proofs.Numbers.{compute_advances}
use Rattle.cb_safety.proofs.Spelled.{branch_operand, constant_fits, switch_operand}
use Rattle.cb_safety.proofs.Moving.{increase_advances, load_advances, null_advances, shuffle_advances, store_advances}

-- by its shape
advances_as : (machine : Machine) (state : State) (frame : MethodFrame) (below : List Frame) (insn : Insn) (action : Action)
    → IsSpelled machine.program → insn_in (code_at machine.program frame.method) frame.pc ≡ Some insn → action_of insn ≡ Some action
    → IsTypedState machine.program (made (throws_by_zero machine state))
    → Stage machine state frame below insn action → is_of_frame action ≡ true → Planned machine.program (done (now_at machine state frame below) insn.operand action)
advances_as machine state frame below insn (actions.Compute computation) spelled there so throws stage is =
    compute_advances machine state frame below insn computation stage throws
    (constant_fits machine.program frame.method frame.pc insn spelled there computation so)
advances_as machine state frame below insn actions.Null spelled there so throws stage is = null_advances machine state frame below insn stage
advances_as machine state frame below insn (actions.Load sort local) spelled there so throws stage is = load_advances machine state frame below insn sort local stage
advances_as machine state frame below insn (actions.Store sort local) spelled there so throws stage is = store_advances machine state frame below insn sort local stage
advances_as machine state frame below insn (actions.Increase local by) spelled there so throws stage is = increase_advances machine state frame below insn local by stage
advances_as machine state frame below insn (actions.Shuffle shuffle) spelled there so throws stage is = shuffle_advances machine state frame below insn shuffle stage
advances_as machine state frame below insn (actions.Branch condition) spelled there so throws stage is =
    branch_advances machine state frame below insn condition (branch_operand machine.program frame.method frame.pc insn spelled there condition so) stage
advances_as machine state frame below insn actions.Switch spelled there so throws stage is =
    switch_advances machine state frame below insn (switch_operand machine.program frame.method frame.pc insn spelled there so) stage
advances_as machine state frame below insn other spelled there so throws stage is = absurd (false≢true is)

pub frames_advance : (machine : Machine) (state : State) (frame : MethodFrame) (below : List Frame) (insn : Insn) (action : Action)
    → IsTyped machine.program → IsSpelled machine.program → HoldsOn machine.program → IsTypedState machine.program state
    → state.exit ≡ None → state.roots.pending ≡ 0 → state.roots.frames ≡ OfMethod frame ∷ below
    → insn_in (code_at machine.program frame.method) frame.pc ≡ Some insn → action_of insn ≡ Some action → is_of_frame action ≡ true
    → IsTypedState machine.program (made (throws_by_zero machine state)) → Advances machine state
frames_advance machine state frame below insn action fits spelled holds typed none zero frames there so is throws =
    advances_by machine state (done (now_at machine state frame below) insn.operand action)
    (running machine state frame below insn action none zero frames there so)
    (advances_as machine state frame below insn action spelled there so throws (stage_of machine state frame below insn action fits spelled holds typed zero frames there so) is)
