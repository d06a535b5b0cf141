-- An instruction that throws an exception (JVMS §6.5, athrow).
use Rattle.std.proofs.Common.{◌≡◌, ap, refl, sym, subst, subst₂, ℕ, true, List, [], ◌∷◌, Option, Some, None, option_and_then}
use Rattle.std.proofs.lemmas.Option.{option_and_then_some}
use Rattle.cb_hierarchy.specs.Classes.{listed}
use Rattle.cb_insn.specs.declared.insn.Insn.{Insn}
use Rattle.cb_link.specs.Named.{code_at, insn_in}
use Rattle.cb_link.specs.Program.{Linked}
use Rattle.cb_machine.specs.Arrays.{with_object}
use Rattle.cb_machine.specs.Machine.{Machine}
use Rattle.cb_machine.specs.Plans.{Plan, leaving}
use Rattle.cb_machine.specs.Standing.{Now}
use Rattle.cb_machine.specs.Testing.{throws_object}
use Rattle.cb_plain.specs.State.{Frame, MethodFrame, Object, OfMethod, State}
use Rattle.cb_plain.specs.Updates.{with_pending}
use Rattle.cb_plain.specs.declared.value.Value.{Value}
use Rattle.cb_plain.specs.declared.value.Value.TheVariants as values
use Rattle.cb_shapes.specs.Shapes.{action_of}
use Rattle.cb_shapes.specs.declared.action.Action.TheVariants as actions
use Rattle.cb_shapes.specs.declared.sort.Sort.TheVariants as sorts
use Rattle.cb_verify.specs.declared.verification_type.VerificationType.{VerificationType}
use Rattle.cb_verify.specs.declared.verification_type.VerificationType.TheVariants as types
use Rattle.cb_verify.specs.Calls.{put_on}
use Rattle.cb_verify.specs.Frames as verified
use Rattle.cb_verify.specs.Rules.{given, only_if, taken}
use Rattle.cb_verify.specs.Typed.{IsTyped}
use Rattle.cb_verify.specs.Types.{goes_to}
use Rattle.cb_verify.specs.Within.{Within, kind_of_throwable}
use Rattle.cb_safety.specs.Advancing.{Advances, HoldsOn, IsSpelled}
use Rattle.cb_safety.specs.Held.{HasType, HaveTypes}
use Rattle.cb_safety.specs.Kinds.{IsOfKind, Kinds, Refers, kinds_of}
use Rattle.cb_safety.specs.States.{AreFrames, IsTypedState}
use Rattle.cb_safety.specs.Throwing.{AreThrown}
use Rattle.cb_safety.proofs.Arrays.{only}
use Rattle.cb_safety.proofs.Asking.{null_next, object_next}
use Rattle.cb_safety.proofs.Assigned.{assigned, never}
use Rattle.cb_safety.proofs.Going.{Planned, Stage, advances_by, now_at, planned_by, running, stage_of}
use Rattle.cb_safety.proofs.Taken.{Taken, taken_typed}
use Rattle.cb_safety.proofs.Throwing.{frames_covered}

-- an object of the state is pending
now_pending : (program : Linked) (state : State) (serial : ℕ) → IsTypedState program state → IsOfKind program (kinds_of state.objects) kind_of_throwable serial
    → IsTypedState program (with_pending state serial)
now_pending program state serial typed is = record {
  heap = typed.heap;
  roots = record {
    frames = AreFrames.Unwinding serial state.roots.frames is (frames_covered program (kinds_of state.objects) state.roots.pending state.roots.frames typed.roots.frames);
    statics = typed.roots.statics;
    classes = typed.roots.classes;
    tables = typed.roots.tables;
    argument = typed.roots.argument;
  };
  input = typed.input;
}

module _ (machine : Machine) (state : State) (frame : MethodFrame) (below : List Frame) (insn : Insn) (thrown : AreThrown machine.program)
    (stage : Stage machine state frame below insn actions.Throw) where
  abbrev here : Now
  here = now_at machine state frame below

  abbrev kinds : Kinds
  kinds = kinds_of state.objects

  abbrev leaving_with : Within → verified.Frame → List VerificationType × List VerificationType → Option verified.Frame
  leaving_with method frame_types off = option_and_then (λ (type : Option VerificationType). put_on method frame_types (listed type) off.1) (given method frame.pc actions.Throw off.0)

  abbrev throw_object : ℕ → Object → Option Plan
  throw_object serial object = Some (leaving (with_pending state serial))

  abbrev throw_taken : List Value × List Value → Option Plan
  throw_taken (values.Ref serial ∷ [], rest) = with_object here serial (throw_object serial)
  throw_taken other = None

  throw_reference : (serial : ℕ) → Refers machine.program kinds kind_of_throwable serial → Planned machine.program (with_object here serial (throw_object serial))
  throw_reference serial Refers.ToNull = null_next machine state frame below insn actions.Throw stage thrown (throw_object 0)
  throw_reference serial (Refers.To own is) =
      object_next machine state frame below insn actions.Throw stage thrown (throw_object own) kind_of_throwable own (Refers.To own is)
      (λ object there fits goes. record { plan = leaving (with_pending state own); is = refl; typed = now_pending machine.program state own stage.typed is })

  throw_value : (kind : ℕ) (value : Value) (left : List Value) → HasType stage.method kinds (types.Object kind) value → kind ≡ kind_of_throwable
      → Planned machine.program (throw_taken (value ∷ [], left))
  throw_value kind value left (HasType.AReference own serial refers) same =
      throw_reference serial (subst₂ (λ (program : Linked) (kind : ℕ). Refers program kinds kind serial) stage.own same refers)

  throw_with : (type : VerificationType) (held left : List Value) → HaveTypes stage.method kinds (type ∷ []) held
      → goes_to stage.method.program type (types.Object kind_of_throwable) ≡ true → Planned machine.program (throw_taken (held, left))
  throw_with type held left (HaveTypes.And own value more others has HaveTypes.NoMore) goes =
      throw_value kind_of_throwable value left
      (assigned stage.method (subst HoldsOn (sym stage.own) stage.holds) kinds type (types.Object kind_of_throwable) value goes has) refl

  throw_planned : Planned machine.program (throws_object here)
  throw_planned =
      option_and_then_some (leaving_with stage.method stage.types) (taken (sorts.Reference ∷ []) stage.types.stack) stage.after stage.leaves
      (λ off so fits. by off.0 off.1 so fits)
    where
      go : (type : VerificationType) (rest : List VerificationType) → taken (sorts.Reference ∷ []) stage.types.stack ≡ Some (type ∷ [], rest)
          → goes_to stage.method.program type (types.Object kind_of_throwable) ≡ true → Planned machine.program (throws_object here)
      go type rest so goes =
          let own : Taken stage.method kinds (sorts.Reference ∷ []) frame.stack (type ∷ []) rest =
          taken_typed stage.method kinds (sorts.Reference ∷ []) stage.types.stack frame.stack (type ∷ []) rest stage.stack so in
          planned_by machine.program (throws_object here) (throw_taken (own.values, own.left)) (ap (option_and_then throw_taken) own.taken)
          (throw_with type own.values own.left own.held goes)

      by : (held rest : List VerificationType) → taken (sorts.Reference ∷ []) stage.types.stack ≡ Some (held, rest)
          → leaving_with stage.method stage.types (held, rest) ≡ Some stage.after → Planned machine.program (throws_object here)
      by [] rest so fits = never fits
      by (type ∷ []) rest so fits =
          option_and_then_some (λ (type : Option VerificationType). put_on stage.method stage.types (listed type) rest)
          (only_if (goes_to stage.method.program type (types.Object kind_of_throwable)) None) stage.after fits
          (λ own gives leaves. go type rest so (only (goes_to stage.method.program type (types.Object kind_of_throwable)) None own gives).0)
      by (one ∷ two ∷ more) rest so fits = never fits

pub throw_advances : (machine : Machine) (state : State) (frame : MethodFrame) (below : List Frame) (insn : Insn)
    → IsTyped machine.program → IsSpelled machine.program → HoldsOn machine.program → AreThrown machine.program → IsTypedState machine.program state
    → state.exit ≡ None → state.roots.pending ≡ 0 → state.roots.frames ≡ OfMethod frame ∷ below
    → insn_in (code_at machine.program frame.method) frame.pc ≡ Some insn → action_of insn ≡ Some actions.Throw → Advances machine state
throw_advances machine state frame below insn fits spelled holds thrown typed none zero frames there so =
    advances_by machine state (throws_object (now_at machine state frame below))
    (running machine state frame below insn actions.Throw none zero frames there so)
    (throw_planned machine state frame below insn thrown (stage_of machine state frame below insn actions.Throw fits spelled holds typed zero frames there so))
