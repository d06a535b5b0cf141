-- A typed state advances at an invokespecial, in a linked program.
use Rattle.std.proofs.Common.{◌≡◌, refl, ℕ, Bool, true, false, List, ◌∷◌, Some, None}
use Rattle.cb_insn.specs.declared.insn.Insn.{Insn}
use Rattle.cb_insn.specs.declared.opcode.TheConstants as opcodes
use Rattle.cb_link.specs.Named.{code_at, insn_in}
use Rattle.cb_machine.specs.Calling.{invokes_special}
use Rattle.cb_machine.specs.Machine.{Machine}
use Rattle.cb_machine.specs.Steps.{plan}
use Rattle.cb_plain.specs.State.{Frame, MethodFrame, OfMethod, State}
use Rattle.cb_shapes.specs.Shapes.{action_of}
use Rattle.cb_shapes.specs.declared.action.Action.TheVariants as actions
use Rattle.cb_verify.specs.Typed.{IsTyped}
use Rattle.cb_verify.specs.Within.{is_init, name_at}
use Rattle.cb_safety.specs.Advancing.{Advances}
use Rattle.cb_safety.specs.Linked.{IsLinked}
use Rattle.cb_safety.specs.Natives.{CallsNative}
use Rattle.cb_safety.specs.States.{IsTypedState}
use Rattle.cb_safety.proofs.CallNames.{NamesMethod, names_method}
use Rattle.cb_safety.proofs.Called.{Call, call_of}
use Rattle.cb_safety.proofs.ConstructorCalls.{constructor_advances}
use Rattle.cb_safety.proofs.Going.{now_at, running}
use Rattle.cb_safety.proofs.Links.{Links, links}
use Rattle.cb_safety.proofs.SpecialCalls.{special_advances}

pub linked_special_calls_advance : (machine : Machine) (state : State) (frame : MethodFrame) (below : List Frame) (insn : Insn) (index : ℕ)
    → IsLinked machine.program → IsTyped machine.program → IsTypedState machine.program state
    → state.exit ≡ None → state.roots.pending ≡ 0 → state.roots.frames ≡ OfMethod frame ∷ below
    → insn_in (code_at machine.program frame.method) frame.pc ≡ Some insn → action_of insn ≡ Some (actions.InvokeSpecial index)
    → (CallsNative machine state frame below → Advances machine state) → Advances machine state
linked_special_calls_advance machine state frame below insn index linked fits typed ended zero frames there so natives =
    by (is_init (name_at call.at.method index)) refl
  where
    them : Links machine.program
    them = links machine.program linked

    call : Call machine state frame below insn (actions.InvokeSpecial index)
    call = call_of machine state frame below insn (actions.InvokeSpecial index) fits them.spelled them.holds typed zero frames there so

    names : NamesMethod machine.program frame.method frame.pc opcodes.INVOKESPECIAL index call.at.method
    names =
        names_method machine.program them.whole them.formed them.none them.spelled frame.method frame.pc call.at.method insn (actions.InvokeSpecial index) (opcodes.INVOKESPECIAL, index) call.at.within there so refl

    does : plan machine state ≡ invokes_special (now_at machine state frame below) index
    does = running machine state frame below insn (actions.InvokeSpecial index) ended zero frames there so

    by : (init : Bool) → is_init (name_at call.at.method index) ≡ init → Advances machine state
    by true init = constructor_advances machine state frame below insn index them call names init fits natives does
    by false init = special_advances machine state frame below insn index them call names init fits natives does
