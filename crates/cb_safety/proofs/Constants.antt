-- ldc, ldc_w and ldc2_w.
use Rattle.std.proofs.Common.{◌≡◌, refl, sym, subst, ℕ, List, ◌∷◌, ◌++◌, Option, Some, None, option_and_then, option_map}
use Rattle.std.specs.List.{AllByRecursion}
use Rattle.cb_classfile.specs.Class.{IsWellFormed}
use Rattle.cb_hierarchy.specs.Classes.{listed}
use Rattle.cb_insn.specs.declared.insn.Insn.{Insn}
use Rattle.cb_link.specs.Having.{IsWhole}
use Rattle.cb_link.specs.Named.{IsThere, code_at, insn_in, named}
use Rattle.cb_link.specs.Program.{Linked}
use Rattle.cb_link.specs.declared.named.Named.{Named}
use Rattle.cb_link.specs.declared.named.Named.TheVariants as meanings
use Rattle.cb_link.proofs.Laws.{insn_there}
use Rattle.cb_machine.specs.Computing.{loads_constant}
use Rattle.cb_machine.specs.Machine.{Machine}
use Rattle.cb_machine.specs.Plans.{Plan, leaving}
use Rattle.cb_machine.specs.Standing.{Now, leaves, leaves_with}
use Rattle.cb_machine.specs.Steps.{done}
use Rattle.cb_machine.specs.Strings.{Placed, class_object, constant_string}
use Rattle.cb_plain.specs.State.{Frame, MethodFrame, OfMethod, State}
use Rattle.cb_plain.specs.declared.value.Value.TheVariants as values
use Rattle.cb_shapes.specs.Shapes.{action_of}
use Rattle.cb_shapes.specs.declared.action.Action.TheVariants as actions
use Rattle.cb_verify.specs.declared.verification_type.VerificationType.{VerificationType}
use Rattle.cb_verify.specs.declared.verification_type.VerificationType.TheVariants.{Int, Long, Object}
use Rattle.cb_verify.specs.Calls.{put_on}
use Rattle.cb_verify.specs.Frames as verified
use Rattle.cb_verify.specs.Rules.{constant_type}
use Rattle.cb_verify.specs.Typed.{IsTyped}
use Rattle.cb_verify.specs.Within.{kind_of_class, kind_of_string}
use Rattle.cb_safety.specs.Advancing.{Advances, HoldsOn, IsSpelled}
use Rattle.cb_safety.specs.Constants.{HasClassObjects}
use Rattle.cb_safety.specs.Held.{HasType, IsStack}
use Rattle.cb_safety.specs.Kinds.{IsOfKind, Kinds, Refers, kinds_of}
use Rattle.cb_safety.specs.States.{IsTypedState}
use Rattle.cb_safety.specs.Strings.{HasConstants}
use Rattle.cb_safety.proofs.Assigned.{never}
use Rattle.cb_safety.proofs.Begun.{constant_made}
use Rattle.cb_safety.proofs.ClassObjects.{HasClassObject, class_made}
use Rattle.cb_safety.proofs.Declared.{is_own}
use Rattle.cb_safety.proofs.Extended.{is_stack_more}
use Rattle.cb_safety.proofs.Fitting.{FitsNamed, named_fits}
use Rattle.cb_safety.proofs.Going.{Planned, Stage, advances_by, lays_next, now_at, running, stage_of}
use Rattle.cb_safety.proofs.Grown.{Grows, constant_grows, grows_first, lays_good}
use Rattle.cb_safety.proofs.Makings.{IsMade, made_is}
use Rattle.cb_safety.proofs.StringsMade.{HasString, IsGood, objects_in}

module _ (machine : Machine) (state : State) (frame : MethodFrame) (below : List Frame) (insn : Insn) (index : ℕ) (constants : HasConstants machine.program)
    (objects : HasClassObjects machine.program) (stage : Stage machine state frame below insn (actions.Constant index)) where
  abbrev here : Now
  here = now_at machine state frame below

  abbrev old : Kinds
  old = kinds_of state.objects

  -- what the verifier leaves for what is named
  abbrev left_for : Named → Option verified.Frame
  left_for named =
      option_and_then (λ (type : Option VerificationType). put_on stage.method stage.types (listed type) stage.types.stack) (option_map Some (constant_type named))

  -- an object on the stack of a plan that grows
  lays_object : (kind : ℕ) (placed : Placed) → IsGood machine.program placed.plan → Grows old placed.plan → IsOfKind machine.program (kinds_of (objects_in placed.plan)) kind placed.serial
      → verified.with_stack stage.method.body.max_stack stage.types (Object kind ∷ stage.types.stack) ≡ Some stage.after
      → Planned machine.program (leaves_with here (values.Ref placed.serial ∷ frame.stack) placed.plan)
  lays_object kind placed good grows is fits =
      let grown : Kinds = old ++ grows.more in
      let own : IsOfKind machine.program grown kind placed.serial = subst (λ (kinds : Kinds). IsOfKind machine.program kinds kind placed.serial) grows.is is in
      let has : HasType stage.method grown (Object kind) (values.Ref placed.serial) =
      HasType.AReference kind placed.serial (subst (λ (program : Linked). Refers program grown kind placed.serial) (sym stage.own) (Refers.To placed.serial own)) in
      lays_good machine state frame below insn (actions.Constant index) stage placed.plan good grows refl (Object kind ∷ stage.types.stack) (values.Ref placed.serial ∷ frame.stack) fits
      (IsStack.Upon (Object kind) (values.Ref placed.serial) stage.types.stack frame.stack has refl (is_stack_more stage.method old grows.more stage.types.stack frame.stack stage.stack))

  first_good : IsGood machine.program (leaving state)
  first_good = record { typed = stage.typed; next = refl }

  abbrev lays_placed : Placed → Option Plan
  lays_placed placed = leaves_with here (values.Ref placed.serial ∷ frame.stack) placed.plan

  abbrev lays_named : Named → Option Plan
  lays_named (meanings.Whole value) = leaves here (value ∷ frame.stack)
  lays_named (meanings.Text text) = lays_placed (constant_string machine text (leaving state))
  lays_named (meanings.Kind kind) = lays_placed (class_object machine kind (leaving state))
  lays_named other = None

  by_named : (named : Named) → FitsNamed named → IsThere machine.program named → left_for named ≡ Some stage.after → Planned machine.program (lays_named named)
  by_named (meanings.Whole (values.Int number)) fits there leaves =
      lays_next machine state frame below insn (actions.Constant index) stage refl (Int ∷ stage.types.stack) (values.Int number ∷ frame.stack) leaves
      (IsStack.Upon Int (values.Int number) stage.types.stack frame.stack (HasType.AnInt number fits) refl stage.stack)
  by_named (meanings.Whole (values.Long number)) fits there leaves =
      lays_next machine state frame below insn (actions.Constant index) stage refl (Long ∷ stage.types.stack) (values.Long number ∷ frame.stack) leaves
      (IsStack.Upon Long (values.Long number) stage.types.stack frame.stack (HasType.ALong number fits) refl stage.stack)
  by_named (meanings.Text text) fits there leaves =
      let placed : Placed = constant_string machine text (leaving state) in
      let own : HasString machine.program placed = constant_made machine constants text (leaving state) first_good in
      lays_object kind_of_string placed own.good (constant_grows machine old text (leaving state) (grows_first state stage.runs)) own.is leaves
  by_named (meanings.Kind kind) fits there leaves =
      let placed : Placed = class_object machine kind (leaving state) in
      let own : HasClassObject machine.program old placed = class_made machine objects old kind (leaving state) there first_good (grows_first state stage.runs) in
      lays_object kind_of_class placed own.good own.grows own.is leaves
  by_named other fits there leaves = never leaves

  constant_advances : (whole : IsWhole machine.program) → AllByRecursion IsWellFormed machine.program.classes → stage.method.number ≡ frame.method
      → Planned machine.program (loads_constant here)
  constant_advances whole formed same =
      by_named (named machine.program frame.method frame.pc) (named_fits machine.program formed frame.method frame.pc) (insn_there machine.program whole frame.method frame.pc)
      (subst (λ (program : Linked). left_for (named program frame.method frame.pc) ≡ Some stage.after) stage.own
      (subst (λ (number : ℕ). left_for (named stage.method.program number frame.pc) ≡ Some stage.after) same stage.leaves))

pub constants_advance : (machine : Machine) (state : State) (frame : MethodFrame) (below : List Frame) (insn : Insn) (index : ℕ)
    → IsTyped machine.program → IsSpelled machine.program → HoldsOn machine.program → IsWhole machine.program → AllByRecursion IsWellFormed machine.program.classes
    → HasConstants machine.program → HasClassObjects machine.program → IsTypedState machine.program state
    → state.exit ≡ None → state.roots.pending ≡ 0 → state.roots.frames ≡ OfMethod frame ∷ below
    → insn_in (code_at machine.program frame.method) frame.pc ≡ Some insn → action_of insn ≡ Some (actions.Constant index) → Advances machine state
constants_advance machine state frame below insn index fits spelled on whole formed constants objects typed none idle frames is_there so =
    let stage = stage_of machine state frame below insn (actions.Constant index) fits spelled on typed idle frames is_there so in
    let made : IsMade machine.program frame.method frame.pc insn = made_is machine.program frame.method frame.pc insn is_there in
    advances_by machine state (done (now_at machine state frame below) insn.operand (actions.Constant index))
    (running machine state frame below insn (actions.Constant index) none idle frames is_there so)
    (constant_advances machine state frame below insn index constants objects stage whole formed
    (is_own machine.program frame.method stage.method made.own whole stage.within made.there).own_number)
