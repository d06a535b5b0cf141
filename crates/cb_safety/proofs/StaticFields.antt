-- getstatic and putstatic.
use Rattle.std.proofs.Common.{◌≡◌, ◌∙◌, ap, refl, sym, subst, ℕ, ◌+◌, true, List, [], ◌∷◌, length, Option, Some, None, option_and_then, slice_get}
use Rattle.std.proofs.lemmas.Bool.{false≢true}
use Rattle.std.proofs.lemmas.List.{append-nil}
use Rattle.std.proofs.lemmas.Option.{option_and_then_some}
use Rattle.cb_hierarchy.specs.Classes.{listed}
use Rattle.cb_insn.specs.declared.insn.Insn.{Insn}
use Rattle.cb_kinds.specs.declared.basic.Basic.{Basic}
use Rattle.cb_link.specs.Having.{IsWhole}
use Rattle.cb_link.specs.Named.{code_at, insn_in, named}
use Rattle.cb_link.specs.Program.{Linked}
use Rattle.cb_link.specs.Slots.{static_basic}
use Rattle.cb_link.specs.declared.named.Named.{Named}
use Rattle.cb_link.specs.declared.named.Named.TheVariants as meanings
use Rattle.cb_machine.specs.Fields.{gets_static_field, puts_static_field}
use Rattle.cb_machine.specs.Initialising.{once_ready}
use Rattle.cb_machine.specs.Machine.{Machine}
use Rattle.cb_machine.specs.Plans.{Plan, leaving}
use Rattle.cb_machine.specs.Standing.{Now, leaves, leaves_with, taken as taken_values}
use Rattle.cb_machine.specs.Steps.{done}
use Rattle.cb_machine.specs.Values.{kept_value, sort_of_basic}
use Rattle.cb_plain.specs.Roots as plain_roots
use Rattle.cb_plain.specs.State.{Frame, MethodFrame, OfMethod, State}
use Rattle.cb_plain.specs.Updates.{with_static}
use Rattle.cb_plain.specs.declared.value.Value.{Value}
use Rattle.cb_shapes.specs.Shapes.{action_of}
use Rattle.cb_shapes.specs.declared.action.Action.{Action}
use Rattle.cb_shapes.specs.declared.action.Action.TheVariants as actions
use Rattle.cb_verify.specs.declared.verification_type.VerificationType.{VerificationType}
use Rattle.cb_verify.specs.Calls.{popped, put_on}
use Rattle.cb_verify.specs.Frames as verified
use Rattle.cb_verify.specs.Leaving.{left_with}
use Rattle.cb_verify.specs.Members.{Member, member_at, member_of}
use Rattle.cb_verify.specs.Typed.{IsTyped}
use Rattle.cb_verify.specs.Types.{type_of}
use Rattle.cb_safety.specs.Advancing.{Advances, HoldsOn, IsSpelled}
use Rattle.cb_safety.specs.Held.{HasBasic, HasType, HaveTypes, IsStack}
use Rattle.cb_safety.specs.Kinds.{kinds_of}
use Rattle.cb_safety.specs.Ready.{BeginsTyped, NamesStatic, NamesStatics, is_of_statics}
use Rattle.cb_safety.specs.States.{HasStatic, IsTypedState}
use Rattle.cb_safety.specs.Strings.{HasConstants}
use Rattle.cb_safety.specs.Throwing.{AreThrown}
use Rattle.cb_safety.proofs.Known.{basic_known}
use Rattle.cb_safety.proofs.Assigned.{KindsChain}
use Rattle.cb_safety.proofs.Begun.{begins_typed}
use Rattle.cb_safety.proofs.Declared.{is_own}
use Rattle.cb_safety.proofs.Enlarged.{lays_more}
use Rattle.cb_safety.proofs.Extended.{is_stack_more}
use Rattle.cb_safety.proofs.Going.{Planned, Stage, advances_by, lays_next, now_at, planned_by, running, stage_of}
use Rattle.cb_safety.proofs.Makings.{IsMade, made_is}
use Rattle.cb_safety.proofs.Readied.{ready_planned}
use Rattle.cb_safety.proofs.StaticValues.{basic_typed, kept_basic, of_type, roots_set}
use Rattle.cb_safety.proofs.Taken.{basic_sized, popped_typed}

-- ---- the instructions

abbrev of_field : Option Basic → Member
of_field basic = record { takes = listed basic; gives = basic }

abbrev one_member : Basic → Member
one_member basic = record { takes = basic ∷ []; gives = Some basic }

module _ (machine : Machine) (state : State) (frame : MethodFrame) (below : List Frame) (insn : Insn) (whole : IsWhole machine.program) (thrown : AreThrown machine.program)
    (begins : BeginsTyped machine state) (is_there : insn_in (code_at machine.program frame.method) frame.pc ≡ Some insn) (names : NamesStatic machine.program frame.method frame.pc) where
  abbrev here : Now
  here = now_at machine state frame below

  abbrev own : IsMade machine.program frame.method frame.pc insn
  own = made_is machine.program frame.method frame.pc insn is_there

  member_is : (action : Action) → (stage : Stage machine state frame below insn action) → member_at stage.method frame.pc ≡ one_member names.basic
  member_is action stage =
      (λ i. member_of (stage.own i) (named (stage.own i) ((is_own machine.program frame.method stage.method own.own whole stage.within own.there).own_number i) frame.pc))
      ∙ ap (member_of machine.program) names.names ∙ ap of_field names.declared

  -- getstatic
  abbrev gets : Named → Option Plan
  gets (meanings.Static class slot) =
      once_ready machine state class (option_and_then (λ (value : Value). leaves here (value ∷ frame.stack)) (slice_get state.roots.statics slot))
  gets other = None

  gets_advances : (index : ℕ) → Stage machine state frame below insn (actions.GetStatic index) → Planned machine.program (gets_static_field here)
  gets_advances index stage =
      planned_by machine.program (gets_static_field here)
      (once_ready machine state names.class (option_and_then (λ (value : Value). leaves here (value ∷ frame.stack)) (slice_get state.roots.statics names.slot)))
      (ap gets names.names)
      (ready_planned machine state stage.typed thrown begins names.class names.low
      (option_and_then (λ (value : Value). leaves here (value ∷ frame.stack)) (slice_get state.roots.statics names.slot))
      (planned_by machine.program (option_and_then (λ (value : Value). leaves here (value ∷ frame.stack)) (slice_get state.roots.statics names.slot))
      (leaves here (held.value ∷ frame.stack)) (ap (option_and_then (λ (value : Value). leaves here (value ∷ frame.stack))) held.there)
      (lays_next machine state frame below insn (actions.GetStatic index) stage refl (type_of names.basic ∷ stage.types.stack) (held.value ∷ frame.stack)
      (subst (λ (member : Member). left_with stage.method frame.pc member (actions.GetStatic index) stage.types ≡ Some stage.after) (member_is (actions.GetStatic index) stage) stage.leaves)
      (IsStack.Upon (type_of names.basic) held.value stage.types.stack frame.stack has (basic_sized stage.method (kinds_of state.objects) names.basic held.value has) stage.stack))))
    where
      held : HasStatic machine.program (kinds_of state.objects) state.roots.statics names.slot names.basic
      held = stage.typed.roots.statics.each names.slot names.basic names.declared

      has : HasType stage.method (kinds_of state.objects) (type_of names.basic) held.value
      has = basic_typed stage.method (kinds_of state.objects) names.basic held.value
          (subst (λ (program : Linked). HasBasic program (kinds_of state.objects) names.basic held.value) (sym stage.own) held.fits)

  -- putstatic
  abbrev set_plan : ℕ → Basic → List Value × List Value → Option Plan
  set_plan slot basic (value ∷ [], rest) = leaves_with here rest (leaving (with_static state slot (kept_value basic value)))
  set_plan slot basic other = None

  abbrev sets_of : ℕ → Basic → Option Plan
  sets_of slot basic = option_and_then (set_plan slot basic) (taken_values (sort_of_basic basic ∷ []) frame.stack)

  abbrev puts : Named → Option Plan
  puts (meanings.Static class slot) = once_ready machine state class (option_and_then (sets_of slot) (static_basic machine.program slot))
  puts other = None

  set_typed : (index : ℕ) → (stage : Stage machine state frame below insn (actions.PutStatic index)) → (held left : List Value) (rest : List VerificationType)
      → HaveTypes stage.method (kinds_of state.objects) (type_of names.basic ∷ []) held → IsStack stage.method (kinds_of state.objects) rest left
      → verified.with_stack stage.method.body.max_stack stage.types rest ≡ Some stage.after → Planned machine.program (set_plan names.slot names.basic (held, left))
  set_typed index stage held left rest (HaveTypes.And type value others more has HaveTypes.NoMore) is fits =
      let kept : HasBasic machine.program (kinds_of state.objects) names.basic (kept_value names.basic value) =
      subst (λ (program : Linked). HasBasic program (kinds_of state.objects) names.basic (kept_value names.basic value)) stage.own
      (kept_basic stage.method (kinds_of state.objects) names.basic value has) in
      lays_more machine state frame below insn (actions.PutStatic index) stage (plain_roots.with_static state.roots names.slot (kept_value names.basic value))
      (roots_set machine.program (kinds_of state.objects) state.roots names.slot (kept_value names.basic value) stage.typed.roots
      (basic_known machine.program (kinds_of state.objects) names.basic (kept_value names.basic value) kept)
      (of_type machine.program (kinds_of state.objects) names.slot names.basic (kept_value names.basic value) names.declared kept)) stage.runs
      [] (length state.objects + 1) [] (sym (append-nil state.objects)) tt refl rest left fits
      (is_stack_more stage.method (kinds_of state.objects) [] rest left is)

  puts_advances : (index : ℕ) → Stage machine state frame below insn (actions.PutStatic index) → Planned machine.program (puts_static_field here)
  puts_advances index stage =
      planned_by machine.program (puts_static_field here)
      (once_ready machine state names.class (option_and_then (sets_of names.slot) (static_basic machine.program names.slot)))
      (ap puts names.names)
      (ready_planned machine state stage.typed thrown begins names.class names.low (option_and_then (sets_of names.slot) (static_basic machine.program names.slot))
      (option_and_then_some (put_on stage.method stage.types []) (popped stage.method.program (type_of names.basic ∷ []) stage.types.stack) stage.after
      (subst (λ (member : Member). left_with stage.method frame.pc member (actions.PutStatic index) stage.types ≡ Some stage.after) (member_is (actions.PutStatic index) stage) stage.leaves)
      by))
    where
      chain : KindsChain stage.method.program
      chain = subst HoldsOn (sym stage.own) stage.holds

      by : (rest : List VerificationType) → popped stage.method.program (type_of names.basic ∷ []) stage.types.stack ≡ Some rest
          → put_on stage.method stage.types [] rest ≡ Some stage.after
          → Planned machine.program (option_and_then (sets_of names.slot) (static_basic machine.program names.slot))
      by rest so fits =
          let off = popped_typed stage.method chain (kinds_of state.objects) (names.basic ∷ []) stage.types.stack frame.stack rest stage.stack so in
          planned_by machine.program (option_and_then (sets_of names.slot) (static_basic machine.program names.slot)) (set_plan names.slot names.basic (off.values, off.left))
          (ap (option_and_then (sets_of names.slot)) names.declared ∙ ap (option_and_then (set_plan names.slot names.basic)) off.taken)
          (set_typed index stage off.values off.left rest off.held off.below fits)

  statics_as : (action : Action) → Stage machine state frame below insn action → is_of_statics action ≡ true → Planned machine.program (done here insn.operand action)
  statics_as (actions.GetStatic index) stage is = gets_advances index stage
  statics_as (actions.PutStatic index) stage is = puts_advances index stage
  statics_as other stage is = absurd (false≢true is)

pub statics_advance : (machine : Machine) (state : State) (frame : MethodFrame) (below : List Frame) (insn : Insn) (action : Action)
    → IsTyped machine.program → IsSpelled machine.program → HoldsOn machine.program → IsWhole machine.program → NamesStatics machine.program
    → HasConstants machine.program → AreThrown machine.program → IsTypedState machine.program state
    → state.exit ≡ None → state.roots.pending ≡ 0 → state.roots.frames ≡ OfMethod frame ∷ below
    → insn_in (code_at machine.program frame.method) frame.pc ≡ Some insn → action_of insn ≡ Some action → is_of_statics action ≡ true → Advances machine state
statics_advance machine state frame below insn action fits spelled on whole names constants thrown typed none idle frames is_there so is =
    let stage = stage_of machine state frame below insn action fits spelled on typed idle frames is_there so in
    advances_by machine state (done (now_at machine state frame below) insn.operand action)
    (running machine state frame below insn action none idle frames is_there so)
    (statics_as machine state frame below insn whole thrown (begins_typed machine constants state typed idle thrown) is_there
    (names frame.method frame.pc stage.method insn action stage.within is_there so is) action stage is)
