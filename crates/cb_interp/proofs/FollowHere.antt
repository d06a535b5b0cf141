-- Where a typed state of a linked program stands at an instruction there is room for what it lays on the stack.
use Rattle.std.proofs.Common.{subst, sym}
use Rattle.cb_link.specs.declared.decoded.Decoded.{Decoded}
use Rattle.cb_machine.specs.Machine.{Machine}
use Rattle.cb_plain.specs.State.{State}
use Rattle.cb_safety.proofs.Laws.{linked_sound}
use Rattle.cb_safety.specs.Linked.{IsLinked}
use Rattle.cb_safety.specs.States.{IsTypedState}
use Rattle.cb_verify.specs.Typed.{IsTyped}
use Rattle.cb_act.specs.Here.{Here}
use Rattle.cb_act.specs.Steps.{view_of}
use Rattle.cb_act.specs.Suited.{HasRoom}
use Rattle.cb_interp.proofs.SuitedRoom.{has_room}

pub room_here : (machine : Machine) (state : State) (decoded : Decoded) → Here machine state decoded → IsLinked machine.program → IsTyped machine.program
    → IsTypedState machine.program state → HasRoom decoded (view_of state)
room_here machine state decoded at linked fits typed =
    subst (λ (decoded : Decoded). HasRoom decoded (view_of state)) (sym at.is)
    (has_room machine state at.frame at.below at.insn fits (linked_sound machine.program linked fits) typed at.quiet at.frames at.there)
