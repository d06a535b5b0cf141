-- The static fields that instructions name, in a typed state.
use Rattle.std.proofs.Common.{◌≡◌, ◌∙◌, ap, ap₂, arith, refl, sym, subst, ℕ, List, [], ◌∷◌, ◌++◌, Some, slice_get}
use Rattle.std.proofs.lemmas.Option.{option_and_then_some}
use Rattle.cb_insn.specs.declared.insn.Insn.{Insn}
use Rattle.cb_kinds.specs.declared.basic.Basic.{Basic}
use Rattle.cb_link.specs.Named.{code_at, insn_in, named}
use Rattle.cb_link.specs.Program.{Linked}
use Rattle.cb_link.specs.Slots.{static_basic}
use Rattle.cb_link.specs.declared.named.Named.TheVariants as meanings
use Rattle.cb_machine.specs.Machine.{Machine}
use Rattle.cb_machine.specs.Values.{kept_value, sort_of_basic}
use Rattle.cb_plain.specs.State.{Frame, MethodFrame, OfMethod, State}
use Rattle.cb_plain.specs.declared.value.Value.{Value}
use Rattle.cb_shapes.specs.Shapes.{action_of}
use Rattle.cb_shapes.specs.declared.action.Action.TheVariants as actions
use Rattle.cb_verify.specs.declared.verification_type.VerificationType.{VerificationType}
use Rattle.cb_verify.specs.Calls.{exchanged, popped, put_on}
use Rattle.cb_verify.specs.Members.{Member, member_at, member_of, taken_types}
use Rattle.cb_verify.specs.Typed.{IsTyped}
use Rattle.cb_verify.specs.Types.{type_of}
use Rattle.cb_safety.specs.Advancing.{HoldsOn, IsSpelled}
use Rattle.cb_safety.specs.Held.{HasBasic, HaveTypes}
use Rattle.cb_safety.specs.Kinds.{Kinds, kinds_of}
use Rattle.cb_safety.specs.Ready.{NamesStatic, NamesStatics}
use Rattle.cb_safety.specs.States.{IsTypedState}
use Rattle.cb_safety.specs.Words.{ReadsStatic, WritesStatic}
use Rattle.cb_safety.proofs.Assigned.{KindsChain}
use Rattle.cb_safety.proofs.Fields.{field_member, within_number}
use Rattle.cb_safety.proofs.Going.{Stage, stage_of, topmost}
use Rattle.cb_safety.proofs.OnStack.{taken_whole}
use Rattle.cb_safety.proofs.StaticValues.{kept_basic}
use Rattle.cb_safety.proofs.Taken.{Taken, basic_sorted, popped_typed}

-- the field that is named is this one
record IsStatic (program : Linked) (number pc class slot : ℕ) : Type 0 where
  pub names : NamesStatic program number pc
  pub same_class : names.class ≡ class
  pub same_slot : names.slot ≡ slot

is_static : (program : Linked) (number pc class slot : ℕ) → NamesStatic program number pc → named program number pc ≡ meanings.Static class slot → IsStatic program number pc class slot
is_static program number pc class slot names is =
    let same : meanings.Static names.class names.slot ≡ meanings.Static class slot = sym names.names ∙ is in
    record { names = names; same_class = cc same; same_slot = cc same }

-- a static field that is declared is there
there : (program : Linked) (state : State) → IsTypedState program state → (number pc class slot : ℕ) (basic : Basic) → IsStatic program number pc class slot
    → static_basic program slot ≡ Some basic → ReadsStatic program state class slot basic
there program state typed number pc class slot basic is declared = record {
  low = omega (arith, is.names.low, is.same_class, typed.roots.classes);
  field = typed.roots.statics.each slot basic declared;
}

pub statics_read : (machine : Machine) (state : State) (frame : MethodFrame) (below : List Frame) (insn : Insn) (index class slot : ℕ) (basic : Basic)
    → NamesStatics machine.program → IsTypedState machine.program state → state.roots.pending ≡ 0 → state.roots.frames ≡ OfMethod frame ∷ below
    → insn_in (code_at machine.program frame.method) frame.pc ≡ Some insn → action_of insn ≡ Some (actions.GetStatic index)
    → named machine.program frame.method frame.pc ≡ meanings.Static class slot → static_basic machine.program slot ≡ Some basic
    → ReadsStatic machine.program state class slot basic
statics_read machine state frame below insn index class slot basic statics typed runs frames placed so is declared =
    let at = (topmost machine.program state frame below typed runs frames).stands.at in
    there machine.program state typed frame.method frame.pc class slot basic
    (is_static machine.program frame.method frame.pc class slot (statics frame.method frame.pc at.method insn (actions.GetStatic index) at.within placed so refl) is) declared

module _ (machine : Machine) (state : State) (frame : MethodFrame) (below : List Frame) (insn : Insn) (index class slot : ℕ) (basic : Basic) where
  abbrev kinds : Kinds
  kinds = kinds_of state.objects

  member_is : (stage : Stage machine state frame below insn (actions.PutStatic index)) → named machine.program frame.method frame.pc ≡ meanings.Static class slot
      → static_basic machine.program slot ≡ Some basic → member_at stage.method frame.pc ≡ field_member (Some basic)
  member_is stage is declared =
      ap₂ (λ (program : Linked) (number : ℕ). member_of program (named program number frame.pc)) stage.own (within_number machine.program frame.method stage.method stage.within)
      ∙ ap (member_of machine.program) is ∙ ap field_member declared

  writes_static : (stage : Stage machine state frame below insn (actions.PutStatic index)) → ReadsStatic machine.program state class slot basic
      → named machine.program frame.method frame.pc ≡ meanings.Static class slot → static_basic machine.program slot ≡ Some basic
      → WritesStatic machine.program state frame class slot basic
  writes_static stage reads is declared =
      option_and_then_some (put_on stage.method stage.types []) (popped stage.method.program (type_of basic ∷ []) stage.types.stack) stage.after
      (subst (λ (member : Member). exchanged stage.method stage.types [] (taken_types member) ≡ Some stage.after) (member_is stage is declared) stage.leaves)
      (λ rest off leaves. by rest
      (popped_typed stage.method (subst KindsChain (sym stage.own) stage.holds) kinds (basic ∷ []) stage.types.stack frame.stack rest stage.stack off))
    where
      go : (held left : List Value) → frame.stack ≡ held ++ left → HaveTypes stage.method kinds (type_of basic ∷ []) held → WritesStatic machine.program state frame class slot basic
      go held left stands (HaveTypes.And type value others more has HaveTypes.NoMore) = record {
        low = reads.low;
        value = value;
        given = ap (λ (stack : List Value). slice_get stack 0) stands;
        sorted = basic_sorted stage.method kinds basic value has;
        kept = subst (λ (program : Linked). HasBasic program kinds basic (kept_value basic value)) stage.own (kept_basic stage.method kinds basic value has);
        field = reads.field;
      }

      by : (rest : List VerificationType) → Taken stage.method kinds (sort_of_basic basic ∷ []) frame.stack (type_of basic ∷ []) rest → WritesStatic machine.program state frame class slot basic
      by rest own = go own.values own.left (taken_whole (sort_of_basic basic ∷ []) frame.stack own.values own.left own.taken) own.held

pub statics_written : (machine : Machine) (state : State) (frame : MethodFrame) (below : List Frame) (insn : Insn) (index class slot : ℕ) (basic : Basic)
    → IsTyped machine.program → IsSpelled machine.program → HoldsOn machine.program → NamesStatics machine.program → IsTypedState machine.program state
    → state.roots.pending ≡ 0 → state.roots.frames ≡ OfMethod frame ∷ below → insn_in (code_at machine.program frame.method) frame.pc ≡ Some insn
    → action_of insn ≡ Some (actions.PutStatic index) → named machine.program frame.method frame.pc ≡ meanings.Static class slot
    → static_basic machine.program slot ≡ Some basic → WritesStatic machine.program state frame class slot basic
statics_written machine state frame below insn index class slot basic fits spelled holds statics typed runs frames placed so is declared =
    let stage : Stage machine state frame below insn (actions.PutStatic index) = stage_of machine state frame below insn (actions.PutStatic index) fits spelled holds typed runs frames placed so in
    writes_static machine state frame below insn index class slot basic stage
    (there machine.program state typed frame.method frame.pc class slot basic
    (is_static machine.program frame.method frame.pc class slot (statics frame.method frame.pc stage.method insn (actions.PutStatic index) stage.within placed so refl) is) declared)
    is declared
