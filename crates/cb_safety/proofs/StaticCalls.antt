-- A typed state advances at a call of a static method, in a linked program.
use Rattle.std.proofs.Common.{◌≡◌, ◌∙◌, ap, refl, sym, subst, arith, ℕ, ◌<◌, Bool, true, List, [], ◌∷◌, ◌++◌, get_or, length, map, reverse, Some, None, option_map, slice_get}
use Rattle.std.proofs.lemmas.List.{length-map, length-reverse, reverse-reverse}
use Rattle.std.proofs.lemmas.Option.{slice_get-get_or}
use Rattle.cb_classfile.specs.declared.method.Method.{Method}
use Rattle.cb_hierarchy.specs.Classes.{listed}
use Rattle.cb_hierarchy.specs.declared.member.Method.{Method as RankedMethod}
use Rattle.cb_hierarchy.specs.declared.selected.Selected.TheVariants as chosen
use Rattle.cb_insn.specs.declared.insn.Insn.{Insn}
use Rattle.cb_insn.specs.declared.opcode.TheConstants as opcodes
use Rattle.cb_kinds.specs.declared.basic.Basic.{Basic}
use Rattle.cb_link.specs.Having.{parameters_at}
use Rattle.cb_link.specs.Named.{code_at, insn_in}
use Rattle.cb_link.specs.Numbers.{Numbered}
use Rattle.cb_link.specs.Program.{linked_method}
use Rattle.cb_link.specs.declared.linked.LinkedMethod.{LinkedMethod}
use Rattle.cb_link.specs.declared.named.Named.TheVariants as meanings
use Rattle.cb_machine.specs.Calling.{asked_sorts, invokes_static}
use Rattle.cb_machine.specs.Initialising.{begun_upon}
use Rattle.cb_machine.specs.Machine.{Machine, class_declaring}
use Rattle.cb_machine.specs.Sites.{no_class_definition}
use Rattle.cb_machine.specs.Standing.{Now, named_here, taken}
use Rattle.cb_machine.specs.Steps.{plan}
use Rattle.cb_machine.specs.Throwing.{throws}
use Rattle.cb_machine.specs.Values.{sort_of_basic}
use Rattle.cb_plain.specs.State.{Frame, MethodFrame, OfMethod, State}
use Rattle.cb_plain.specs.declared.class_state.ClassState.{ClassState}
use Rattle.cb_plain.specs.declared.class_state.ClassState.TheVariants as states
use Rattle.cb_plain.specs.declared.value.Value.{Value}
use Rattle.cb_shapes.specs.Shapes.{action_of}
use Rattle.cb_shapes.specs.declared.action.Action.TheVariants as actions
use Rattle.cb_shapes.specs.declared.sort.Sort.{Sort}
use Rattle.cb_verify.specs.declared.verification_type.VerificationType.{VerificationType}
use Rattle.cb_verify.specs.Calls.{exchanged, is_callable}
use Rattle.cb_verify.specs.Members.{Member, given_types, member_at, taken_types}
use Rattle.cb_verify.specs.Typed.{IsTyped}
use Rattle.cb_verify.specs.Types.{type_of}
use Rattle.cb_verify.specs.Within.{name_at}
use Rattle.cb_safety.specs.Advancing.{Advances, HoldsOn}
use Rattle.cb_safety.specs.Held.{HaveTypes}
use Rattle.cb_safety.specs.Kinds.{Kinds, kinds_of}
use Rattle.cb_safety.specs.Linked.{IsLinked}
use Rattle.cb_safety.specs.Natives.{CallsNative}
use Rattle.cb_safety.specs.States.{IsTypedState}
use Rattle.cb_safety.specs.Strings.{HasConstants}
use Rattle.cb_safety.proofs.Assigned.{when}
use Rattle.cb_safety.proofs.Begun.{initialisation_begins}
use Rattle.cb_safety.proofs.CallNames.{NamesMethod, names_method}
use Rattle.cb_safety.proofs.Called.{Call, Exchanged, arguments_typed, call_of, class_low, exchanged_by, falls_by, given_is, leaves_by, member_there, parameters_there, sorts_are}
use Rattle.cb_safety.proofs.Going.{advances_by, now_at, running}
use Rattle.cb_safety.proofs.FirstValues.{has_constants}
use Rattle.cb_safety.proofs.Links.{Links, links}
use Rattle.cb_safety.proofs.Runs.{Given, IsReceiver, MayRun, Takes, by_method, is_static_method, linked_there, selected_advances}
use Rattle.cb_safety.proofs.Taken.{Taken, popped_typed, taken_front}
use Rattle.cb_safety.proofs.Throwing.{throws_typed}

-- ---- what the machine does, by the state of the class

static_untouched : (now : Now) (number class : ℕ) → named_here now ≡ meanings.Method number → class_declaring now.machine.program number ≡ Some class
    → slice_get now.state.roots.classes class ≡ Some states.Untouched → invokes_static now ≡ Some (begun_upon now.machine now.state now.state.roots.frames class)
static_untouched now number class names declares there = rw (names, declares, there) refl

static_failed : (now : Now) (number class : ℕ) → named_here now ≡ meanings.Method number → class_declaring now.machine.program number ≡ Some class
    → slice_get now.state.roots.classes class ≡ Some states.Failed → invokes_static now ≡ Some (throws now.machine now.state no_class_definition)
static_failed now number class names declares there = rw (names, declares, there) refl

static_busy : (now : Now) (number class : ℕ) (values left : List Value) → named_here now ≡ meanings.Method number → class_declaring now.machine.program number ≡ Some class
    → slice_get now.state.roots.classes class ≡ Some states.Busy → taken (asked_sorts now.machine.program number) now.frame.stack ≡ Some (values, left)
    → invokes_static now ≡ by_method now (reverse values) left (chosen.Method number)
static_busy now number class values left names declares there took = rw (names, declares, there, took) refl

static_done : (now : Now) (number class : ℕ) (values left : List Value) → named_here now ≡ meanings.Method number → class_declaring now.machine.program number ≡ Some class
    → slice_get now.state.roots.classes class ≡ Some states.Done → taken (asked_sorts now.machine.program number) now.frame.stack ≡ Some (values, left)
    → invokes_static now ≡ by_method now (reverse values) left (chosen.Method number)
static_done now number class values left names declares there took = rw (names, declares, there, took) refl

-- ---- a call

module _ (machine : Machine) (state : State) (frame : MethodFrame) (below : List Frame) (insn : Insn) (index : ℕ) (linked : Links machine.program)
    (call : Call machine state frame below insn (actions.InvokeStatic index)) (names : NamesMethod machine.program frame.method frame.pc opcodes.INVOKESTATIC index call.at.method) where
  abbrev kinds : Kinds
  kinds = kinds_of state.objects

  abbrev here : Now
  here = now_at machine state frame below

  abbrev number : ℕ
  number = names.callee.number

  abbrev own : Numbered Method
  own = names.declared.own

  abbrev method : LinkedMethod
  method = linked_method machine.program.kinds own

  abbrev wanted : List Basic
  wanted = method.parameters

  is_linked : slice_get machine.program.methods number ≡ Some method
  is_linked = linked_there machine.program linked.whole number own names.declared.there

  declares : class_declaring machine.program number ≡ Some own.class
  declares = ap (option_map (λ (own : LinkedMethod). own.class)) is_linked

  pub low : own.class < length state.roots.classes
  low = omega (arith, class_low machine.program number method linked.whole is_linked, call.typed.roots.classes)

  static : is_static_method own ≡ true
  static = ap (λ (method : RankedMethod). method.is_static) names.declared.is ∙ names.callee.suits

  -- what the verifier's rule says
  by_rule : Exchanged call.at.method call.at.types call.after (map type_of (listed method.result)) (map type_of (reverse wanted))
  by_rule =
      subst (λ (member : Member). Exchanged call.at.method call.at.types call.after (given_types member) (taken_types member))
      (member_there machine.program frame.method frame.pc number call.at.method method call.at.within names.names is_linked)
      (exchanged_by call.at.method call.at.types call.after (given_types (member_at call.at.method frame.pc)) (taken_types (member_at call.at.method frame.pc))
      (when (is_callable (name_at call.at.method index))
      (exchanged call.at.method call.at.types (given_types (member_at call.at.method frame.pc)) (taken_types (member_at call.at.method frame.pc))) call.after
      (leaves_by machine state frame below insn (actions.InvokeStatic index) call)).1)

  took : Taken call.at.method kinds (map sort_of_basic (reverse wanted)) frame.stack (map type_of (reverse wanted)) by_rule.rest
  took = popped_typed call.at.method (subst HoldsOn (sym call.own) call.holds) kinds (reverse wanted) call.at.types.stack frame.stack by_rule.rest call.stack by_rule.off

  off : taken (asked_sorts machine.program number) frame.stack ≡ Some (took.values, took.left)
  off = ap (λ (asked : List Sort). taken asked frame.stack) (sorts_are machine.program number method is_linked) ∙ took.taken

  given_taken : Given machine.program kinds call.at.method own (reverse took.values)
  given_taken = record {
    receiver = [];
    others = reverse took.values;
    are = refl;
    on = subst (λ (static : Bool). IsReceiver machine.program kinds own.class static []) (sym static) IsReceiver.NoObject;
    have = arguments_typed call.at.method call.at.method kinds wanted took.values refl took.held;
  }

  -- the method takes the arguments that stand on the stack
  pub static_takes : (arguments rest : List Value) → frame.stack ≡ reverse arguments ++ rest → length arguments ≡ length (parameters_at machine.program number)
      → Takes machine.program kinds call.at.method number arguments
  static_takes arguments rest stack so_many =
      subst (Takes machine.program kinds call.at.method number)
      (ap (λ (held : List Value). reverse held)
      (taken_front call.at.method kinds (map sort_of_basic (reverse wanted)) frame.stack (map type_of (reverse wanted)) by_rule.rest took (reverse arguments) rest stack as_many)
      ∙ reverse-reverse arguments)
      (record { own = own; there = names.declared.there; given = given_taken })
    where
      as_many : length (reverse arguments) ≡ length (map sort_of_basic (reverse wanted))
      as_many =
          length-reverse arguments ∙ so_many ∙ ap (λ (own : List Basic). length own) (parameters_there machine.program number method is_linked)
          ∙ sym (length-reverse wanted) ∙ sym (length-map (reverse wanted) sort_of_basic)

  may : MayRun machine state frame below insn (actions.InvokeStatic index) call number (reverse took.values) took.left
  may = record {
    own = own;
    there = names.declared.there;
    given = given_taken;
    ready = record {
      rest = by_rule.rest;
      falls = falls_by insn (actions.InvokeStatic index) call.acts refl;
      answered = by_rule.stack ∙ ap (λ (types : List VerificationType). types ++ by_rule.rest) (given_is method.result);
      locals = subst (λ (types : List VerificationType). HaveTypes call.at.method kinds types frame.locals) (sym by_rule.locals) call.locals;
      stack = took.below;
    };
  }

  module _ (fits : IsTyped machine.program) (constants : HasConstants machine.program) (natives : CallsNative machine state frame below → Advances machine state)
      (does : plan machine state ≡ invokes_static (now_at machine state frame below)) where
    runs : plan machine state ≡ by_method here (reverse took.values) took.left (chosen.Method number) → Advances machine state
    runs is =
        selected_advances machine state frame below insn (actions.InvokeStatic index) call fits linked.spelled linked.coded linked.whole linked.thrown natives (chosen.Method number) (reverse took.values) took.left
        (λ other same. let is : number ≡ other = cc in
        subst (λ (number : ℕ). MayRun machine state frame below insn (actions.InvokeStatic index) call number (reverse took.values) took.left) is may) is

    pub static_advances : (now : ClassState) → slice_get state.roots.classes own.class ≡ Some now → Advances machine state
    static_advances states.Untouched there =
        advances_by machine state (Some (begun_upon machine state state.roots.frames own.class)) (does ∙ static_untouched here number own.class names.names declares there)
        (record {
          plan = begun_upon machine state state.roots.frames own.class;
          is = refl;
          typed = initialisation_begins machine state own.class constants linked.thrown call.typed call.runs (class_low machine.program number method linked.whole is_linked);
        })
    static_advances states.Failed there =
        advances_by machine state (Some (throws machine state no_class_definition)) (does ∙ static_failed here number own.class names.names declares there)
        (record {
          plan = throws machine state no_class_definition;
          is = refl;
          typed = throws_typed machine state no_class_definition call.typed (linked.thrown no_class_definition (8, omega arith, refl));
        })
    static_advances states.Busy there = runs (does ∙ static_busy here number own.class took.values took.left names.names declares there off)
    static_advances states.Done there = runs (does ∙ static_done here number own.class took.values took.left names.names declares there off)

    static_call_advances : Advances machine state
    static_call_advances =
        static_advances (get_or state.roots.classes own.class states.Busy) (slice_get-get_or state.roots.classes own.class states.Busy low)

-- ---- the state

pub linked_static_calls_advance : (machine : Machine) (state : State) (frame : MethodFrame) (below : List Frame) (insn : Insn) (index : ℕ)
    → IsLinked machine.program → IsTyped machine.program → IsTypedState machine.program state
    → state.exit ≡ None → state.roots.pending ≡ 0 → state.roots.frames ≡ OfMethod frame ∷ below
    → insn_in (code_at machine.program frame.method) frame.pc ≡ Some insn → action_of insn ≡ Some (actions.InvokeStatic index)
    → (CallsNative machine state frame below → Advances machine state) → Advances machine state
linked_static_calls_advance machine state frame below insn index linked fits typed ended zero frames there so natives =
    static_call_advances machine state frame below insn index them call
    (names_method machine.program them.whole them.formed them.none them.spelled frame.method frame.pc call.at.method insn (actions.InvokeStatic index) (opcodes.INVOKESTATIC, index) call.at.within there so refl)
    fits (has_constants machine.program linked) natives (running machine state frame below insn (actions.InvokeStatic index) ended zero frames there so)
  where
    them : Links machine.program
    them = links machine.program linked

    call : Call machine state frame below insn (actions.InvokeStatic index)
    call = call_of machine state frame below insn (actions.InvokeStatic index) fits them.spelled them.holds typed zero frames there so
