-- A typed state advances at a call of a static method with code.
use Rattle.std.proofs.Common.{◌≡◌, ◌∙◌, ap, refl, sym, subst, arith, ℕ, ◌<◌, Bool, List, [], ◌∷◌, ◌++◌, length, map, reverse, Option, Some, None, option_and_then, option_map, slice_get, get_or, if◌then◌else◌}
use Rattle.std.proofs.lemmas.Option.{slice_get-get_or}
use Rattle.cb_classfile.specs.declared.body.Body.{Body}
use Rattle.cb_classfile.specs.declared.method.Method.{Method}
use Rattle.cb_hierarchy.specs.Classes.{listed}
use Rattle.cb_insn.specs.declared.insn.Insn.{Insn}
use Rattle.cb_kinds.specs.declared.basic.Basic.{Basic}
use Rattle.cb_link.specs.Having.{IsWhole, parameters_at}
use Rattle.cb_link.specs.Named.{code_at, insn_in}
use Rattle.cb_link.specs.Numbers.{Numbered}
use Rattle.cb_link.specs.Program.{Linked}
use Rattle.cb_link.specs.declared.linked.LinkedMethod.{LinkedMethod}
use Rattle.cb_link.specs.declared.named.Named.TheVariants as meanings
use Rattle.cb_machine.specs.Calling.{asked_sorts, invokes_static}
use Rattle.cb_machine.specs.Entering.{entered_upon}
use Rattle.cb_machine.specs.Initialising.{begun_upon}
use Rattle.cb_machine.specs.Machine.{Machine, class_declaring, method_numbered}
use Rattle.cb_machine.specs.Plans.{made}
use Rattle.cb_machine.specs.Sites.{no_class_definition}
use Rattle.cb_machine.specs.Standing.{Now, named_here, taken, with_stack}
use Rattle.cb_machine.specs.Steps.{done}
use Rattle.cb_machine.specs.Throwing.{throws}
use Rattle.cb_machine.specs.Values.{sort_of_basic}
use Rattle.cb_plain.specs.declared.class_state.ClassState.{ClassState}
use Rattle.cb_plain.specs.declared.class_state.ClassState.TheVariants as states
use Rattle.cb_plain.specs.State.{Frame, MethodFrame, OfMethod, State}
use Rattle.cb_plain.specs.declared.value.Value.{Value}
use Rattle.cb_shapes.specs.Shapes.{action_of}
use Rattle.cb_shapes.specs.declared.action.Action.TheVariants as actions
use Rattle.cb_shapes.specs.declared.sort.Sort.{Sort}
use Rattle.cb_verify.specs.declared.verification_type.VerificationType.{VerificationType}
use Rattle.cb_verify.specs.declared.verification_type.VerificationType.TheVariants.{Object, This}
use Rattle.cb_verify.specs.Calls.{exchanged, is_callable}
use Rattle.cb_verify.specs.Expansion.{start_types}
use Rattle.cb_verify.specs.Members.{Member, given_types, member_at, taken_types}
use Rattle.cb_verify.specs.Typed.{IsTyped}
use Rattle.cb_verify.specs.Types.{type_of}
use Rattle.cb_verify.specs.Within.{Within, name_at, parameters}
use Rattle.cb_safety.specs.Advancing.{Advances, HoldsOn, IsSpelled}
use Rattle.cb_safety.specs.Beginning.{HasCode}
use Rattle.cb_safety.specs.Calling.{CallsStatic}
use Rattle.cb_safety.specs.Frames.{result_at, result_types}
use Rattle.cb_safety.specs.Held.{HaveTypes}
use Rattle.cb_safety.specs.Kinds.{Kinds, kinds_of}
use Rattle.cb_safety.specs.States.{IsTypedState}
use Rattle.cb_safety.specs.Throwing.{AreThrown}
use Rattle.cb_safety.proofs.Assigned.{when}
use Rattle.cb_safety.proofs.Beginning.{method_begins}
use Rattle.cb_safety.proofs.Called.{Call, Exchanged, HasParts, arguments_typed, call_of, class_low, enters, exchanged_by, falls_by, given_is, has_parts, leaves_by, member_there, parameters_there, sorts_are}
use Rattle.cb_safety.proofs.Entering.{AreTold, basics_told}
use Rattle.cb_safety.proofs.Entries.{within_method}
use Rattle.cb_safety.proofs.Going.{Planned, advances_by, now_at, planned_by, running}
use Rattle.cb_safety.proofs.Taken.{Taken, popped_typed}
use Rattle.cb_safety.proofs.Throwing.{throws_typed}

-- ---- what the machine does, by the state of the class

static_untouched : (now : Now) (number class : ℕ) → named_here now ≡ meanings.Method number → class_declaring now.machine.program number ≡ Some class
    → slice_get now.state.roots.classes class ≡ Some states.Untouched → invokes_static now ≡ Some (begun_upon now.machine now.state now.state.roots.frames class)
static_untouched now number class names declares there = rw (names, declares, there) refl

static_failed : (now : Now) (number class : ℕ) → named_here now ≡ meanings.Method number → class_declaring now.machine.program number ≡ Some class
    → slice_get now.state.roots.classes class ≡ Some states.Failed → invokes_static now ≡ Some (throws now.machine now.state no_class_definition)
static_failed now number class names declares there = rw (names, declares, there) refl

static_busy : (now : Now) (number class : ℕ) (values left : List Value) (numbered : Numbered Method) (body : Body)
    → named_here now ≡ meanings.Method number → class_declaring now.machine.program number ≡ Some class → slice_get now.state.roots.classes class ≡ Some states.Busy
    → taken (asked_sorts now.machine.program number) now.frame.stack ≡ Some (values, left)
    → method_numbered now.machine.program number ≡ Some numbered → numbered.member.body ≡ Some body
    → invokes_static now ≡ Some (entered_upon now.machine now.state (OfMethod (with_stack now.frame left) ∷ now.below) number (reverse values) body)
static_busy now number class values left numbered body names declares there took found has = rw (names, declares, there, took, found, has) refl

static_done : (now : Now) (number class : ℕ) (values left : List Value) (numbered : Numbered Method) (body : Body)
    → named_here now ≡ meanings.Method number → class_declaring now.machine.program number ≡ Some class → slice_get now.state.roots.classes class ≡ Some states.Done
    → taken (asked_sorts now.machine.program number) now.frame.stack ≡ Some (values, left)
    → method_numbered now.machine.program number ≡ Some numbered → numbered.member.body ≡ Some body
    → invokes_static now ≡ Some (entered_upon now.machine now.state (OfMethod (with_stack now.frame left) ∷ now.below) number (reverse values) body)
static_done now number class values left numbered body names declares there took found has = rw (names, declares, there, took, found, has) refl

-- ---- a call

module _ (machine : Machine) (state : State) (frame : MethodFrame) (below : List Frame) (insn : Insn) (index : ℕ) (callee : Within)
    (fits : IsTyped machine.program) (spelled : IsSpelled machine.program) (coded : HasCode machine.program) (whole : IsWhole machine.program) (thrown : AreThrown machine.program)
    (call : Call machine state frame below insn (actions.InvokeStatic index)) (calls : CallsStatic machine.program frame.method frame.pc callee) where
  abbrev kinds : Kinds
  kinds = kinds_of state.objects

  abbrev here : Now
  here = now_at machine state frame below

  abbrev number : ℕ
  number = callee.number

  parts : HasParts machine.program number callee
  parts = has_parts machine.program number callee calls.within

  abbrev wanted : List Basic
  wanted = parts.linked.parameters

  declares : class_declaring machine.program number ≡ Some callee.class
  declares = ap (option_map (λ (own : LinkedMethod). own.class)) parts.is_linked ∙ ap {B = Option ℕ} Some parts.class

  low : callee.class < length state.roots.classes
  low = omega (arith, parts.class, class_low machine.program number parts.linked whole parts.is_linked, call.typed.roots.classes)

  -- what the verifier's rule says
  by_rule : Exchanged call.at.method call.at.types call.after (map type_of (listed parts.linked.result)) (map type_of (reverse wanted))
  by_rule =
      subst (λ (member : Member). Exchanged call.at.method call.at.types call.after (given_types member) (taken_types member))
      (member_there machine.program frame.method frame.pc number call.at.method parts.linked call.at.within calls.named parts.is_linked)
      (exchanged_by call.at.method call.at.types call.after (given_types member) (taken_types member)
      (when (is_callable (name_at call.at.method index)) (exchanged call.at.method call.at.types (given_types member) (taken_types member)) call.after
      (leaves_by machine state frame below insn (actions.InvokeStatic index) call)).1)
    where
      member : Member
      member = member_at call.at.method frame.pc

  took : Taken call.at.method kinds (map sort_of_basic (reverse wanted)) frame.stack (map type_of (reverse wanted)) by_rule.rest
  took = popped_typed call.at.method (subst HoldsOn (sym call.own) call.holds) kinds (reverse wanted) call.at.types.stack frame.stack by_rule.rest call.stack by_rule.off

  off : taken (asked_sorts machine.program number) frame.stack ≡ Some (took.values, took.left)
  off = ap (λ (asked : List Sort). taken asked frame.stack) (sorts_are machine.program number parts.linked parts.is_linked) ∙ took.taken

  own : callee.program ≡ machine.program
  own = (within_method machine.program number callee calls.within).own

  starts : start_types callee ≡ map type_of wanted
  starts =
      ap (λ (test : Bool). (if test then [] else if callee.is_constructor then This ∷ [] else Object callee.class ∷ []) ++ map type_of (parameters callee)) calls.is_static
      ∙ ap (λ (program : Linked). map type_of (parameters_at program number)) own
      ∙ ap (map type_of) (parameters_there machine.program number parts.linked parts.is_linked)

  gives : call.after.stack ≡ result_types (result_at machine.program number) ++ by_rule.rest
  gives =
      by_rule.stack
      ∙ ap (λ (types : List VerificationType). types ++ by_rule.rest)
      (given_is parts.linked.result ∙ sym (ap (λ (found : Option LinkedMethod). result_types (option_and_then (λ linked. linked.result) found)) parts.is_linked))

  entered : Planned machine.program (Some (entered_upon machine state (OfMethod (with_stack frame took.left) ∷ below) number (reverse took.values) callee.body))
  entered =
      enters machine state frame below insn (actions.InvokeStatic index) call took.left (reverse took.values) by_rule.rest number callee thrown calls.within
      (method_begins machine.program number callee fits spelled coded calls.within)
      (subst (λ (types : List VerificationType). HaveTypes callee kinds types (reverse took.values)) (sym starts)
      (arguments_typed call.at.method callee kinds wanted took.values (call.own ∙ sym own) took.held))
      (subst AreTold (sym starts) (basics_told wanted)) (falls_by insn (actions.InvokeStatic index) call.acts refl) gives
      (subst (λ (types : List VerificationType). HaveTypes call.at.method kinds types frame.locals) (sym by_rule.locals) call.locals) took.below

  pub static_advances : (now : ClassState) → slice_get state.roots.classes callee.class ≡ Some now
      → (slice_get state.roots.classes callee.class ≡ Some states.Untouched → IsTypedState machine.program (made (begun_upon machine state state.roots.frames callee.class)))
      → Planned machine.program (invokes_static here)
  static_advances states.Untouched there begun =
      planned_by machine.program (invokes_static here) (Some (begun_upon machine state state.roots.frames callee.class))
      (static_untouched here number callee.class calls.named declares there)
      (record { plan = begun_upon machine state state.roots.frames callee.class; is = refl; typed = begun there })
  static_advances states.Failed there begun =
      planned_by machine.program (invokes_static here) (Some (throws machine state no_class_definition))
      (static_failed here number callee.class calls.named declares there)
      (record {
        plan = throws machine state no_class_definition;
        is = refl;
        typed = throws_typed machine state no_class_definition call.typed (thrown no_class_definition (8, omega arith, refl));
      })
  static_advances states.Busy there begun =
      planned_by machine.program (invokes_static here)
      (Some (entered_upon machine state (OfMethod (with_stack frame took.left) ∷ below) number (reverse took.values) callee.body))
      (static_busy here number callee.class took.values took.left parts.numbered callee.body calls.named declares there off parts.is_numbered parts.body) entered
  static_advances states.Done there begun =
      planned_by machine.program (invokes_static here)
      (Some (entered_upon machine state (OfMethod (with_stack frame took.left) ∷ below) number (reverse took.values) callee.body))
      (static_done here number callee.class took.values took.left parts.numbered callee.body calls.named declares there off parts.is_numbered parts.body) entered

-- ---- the state

pub static_calls_advance : (machine : Machine) (state : State) (frame : MethodFrame) (below : List Frame) (insn : Insn) (index : ℕ) (callee : Within)
    → IsTyped machine.program → IsSpelled machine.program → HoldsOn machine.program → HasCode machine.program → IsWhole machine.program → AreThrown machine.program
    → IsTypedState machine.program state → state.exit ≡ None → state.roots.pending ≡ 0 → state.roots.frames ≡ OfMethod frame ∷ below
    → insn_in (code_at machine.program frame.method) frame.pc ≡ Some insn → action_of insn ≡ Some (actions.InvokeStatic index)
    → CallsStatic machine.program frame.method frame.pc callee
    → (slice_get state.roots.classes callee.class ≡ Some states.Untouched → IsTypedState machine.program (made (begun_upon machine state state.roots.frames callee.class)))
    → Advances machine state
static_calls_advance machine state frame below insn index callee fits spelled holds coded whole thrown typed none zero frames there so calls begun =
    advances_by machine state (done (now_at machine state frame below) insn.operand (actions.InvokeStatic index))
    (running machine state frame below insn (actions.InvokeStatic index) none zero frames there so)
    (static_advances machine state frame below insn index callee fits spelled coded whole thrown call calls
    (get_or state.roots.classes callee.class states.Busy)
    (slice_get-get_or state.roots.classes callee.class states.Busy
    (low machine state frame below insn index callee fits spelled coded whole thrown call calls)) begun)
  where
    call : Call machine state frame below insn (actions.InvokeStatic index)
    call = call_of machine state frame below insn (actions.InvokeStatic index) fits spelled holds typed zero frames there so
