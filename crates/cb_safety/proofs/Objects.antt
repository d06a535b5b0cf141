-- A typed state advances at an instruction that asks for an object on the stack.
use Rattle.std.proofs.Common.{◌≡◌, ◌∷◌, ℕ, refl, true, List, Some, None}
use Rattle.std.proofs.lemmas.Bool.{false≢true}
use Rattle.cb_insn.specs.declared.insn.Insn.{Insn}
use Rattle.cb_link.specs.Named.{code_at, insn_in}
use Rattle.cb_machine.specs.Machine.{Machine}
use Rattle.cb_machine.specs.Steps.{done}
use Rattle.cb_plain.specs.State.{Frame, MethodFrame, OfMethod, State}
use Rattle.cb_shapes.specs.Shapes.{action_of}
use Rattle.cb_shapes.specs.declared.action.Action.{Action}
use Rattle.cb_shapes.specs.declared.action.Action.TheVariants as actions
use Rattle.cb_verify.specs.Typed.{IsTyped}
use Rattle.cb_safety.specs.Advancing.{Advances, HoldsOn, HoldsThrough, IsSpelled, is_of_object}
use Rattle.cb_safety.specs.Naming.{HoldsElements, NamesField, NamesFields, NamesKind, NamesKinds, field_index, kind_index}
use Rattle.cb_safety.specs.States.{IsTypedState}
use Rattle.cb_safety.specs.Throwing.{AreThrown}
use Rattle.cb_safety.proofs.Arrays.{length_advances, load_number_advances, load_reference_advances, store_number_advances, store_reference_advances}
use Rattle.cb_safety.proofs.Fields.{get_advances, put_advances}
use Rattle.cb_safety.proofs.Going.{Planned, Stage, advances_by, now_at, running, stage_of}
use Rattle.cb_safety.proofs.Testing.{ask_advances, cast_advances}

-- by its shape
advances_as : (machine : Machine) (state : State) (frame : MethodFrame) (below : List Frame) (insn : Insn) (action : Action)
    → HoldsThrough machine.program → HoldsElements machine.program → AreThrown machine.program
    → (stage : Stage machine state frame below insn action)
    → ((index : ℕ) → field_index action ≡ Some index → NamesField machine.program stage.method frame.method frame.pc index)
    → ((index : ℕ) → kind_index action ≡ Some index → NamesKind machine.program stage.method frame.method frame.pc index) → is_of_object action ≡ true
    → Planned machine.program (done (now_at machine state frame below) insn.operand action)
advances_as machine state frame below insn (actions.GetField index) through arrays thrown stage fields kinds is = get_advances machine state frame below insn thrown index stage (fields index refl)
advances_as machine state frame below insn (actions.PutField index) through arrays thrown stage fields kinds is = put_advances machine state frame below insn thrown index stage (fields index refl)
advances_as machine state frame below insn actions.Length through arrays thrown stage fields kinds is = length_advances machine state frame below insn thrown arrays through stage
advances_as machine state frame below insn (actions.LoadNumber form) through arrays thrown stage fields kinds is =
    load_number_advances machine state frame below insn thrown arrays through form stage
advances_as machine state frame below insn (actions.StoreNumber form) through arrays thrown stage fields kinds is =
    store_number_advances machine state frame below insn thrown arrays through form stage
advances_as machine state frame below insn actions.LoadReference through arrays thrown stage fields kinds is =
    load_reference_advances machine state frame below insn thrown arrays through stage
advances_as machine state frame below insn actions.StoreReference through arrays thrown stage fields kinds is =
    store_reference_advances machine state frame below insn thrown arrays through stage
advances_as machine state frame below insn (actions.Cast index) through arrays thrown stage fields kinds is = cast_advances machine state frame below insn thrown index stage (kinds index refl)
advances_as machine state frame below insn (actions.IsInstance index) through arrays thrown stage fields kinds is = ask_advances machine state frame below insn thrown index stage (kinds index refl)
advances_as machine state frame below insn other through arrays thrown stage fields kinds is = absurd (false≢true is)

pub objects_advance : (machine : Machine) (state : State) (frame : MethodFrame) (below : List Frame) (insn : Insn) (action : Action)
    → IsTyped machine.program → IsSpelled machine.program → HoldsOn machine.program → HoldsThrough machine.program → HoldsElements machine.program
    → NamesFields machine.program → NamesKinds machine.program → AreThrown machine.program → IsTypedState machine.program state
    → state.exit ≡ None → state.roots.pending ≡ 0 → state.roots.frames ≡ OfMethod frame ∷ below
    → insn_in (code_at machine.program frame.method) frame.pc ≡ Some insn → action_of insn ≡ Some action → is_of_object action ≡ true → Advances machine state
objects_advance machine state frame below insn action fits spelled holds through arrays fields kinds thrown typed none zero frames there so is =
    let stage : Stage machine state frame below insn action = stage_of machine state frame below insn action fits spelled holds typed zero frames there so in
    advances_by machine state (done (now_at machine state frame below) insn.operand action)
    (running machine state frame below insn action none zero frames there so)
    (advances_as machine state frame below insn action through arrays thrown stage
    (λ index. fields frame.method frame.pc index stage.method insn action stage.within there so)
    (λ index. kinds frame.method frame.pc index stage.method insn action stage.within there so) is)
