-- A typed state advances at a call of a constructor.
use Rattle.std.proofs.Common.{◌≡◌, ◌∙◌, ap, refl, sym, subst, arith, ℕ, suc, ◌<◌, ◌==◌, Bool, true, false, List, [], ◌∷◌, ◌++◌, length, map, reverse, Option, Some, None, option_and_then, option_map, if◌then◌else◌}
use Rattle.std.specs.Prelude.{codes, is_none}
use Rattle.std.specs.List.{flat_map}
use Rattle.std.proofs.lemmas.Bool.{eq-eqb}
use Rattle.std.proofs.lemmas.List.{length-map, reverse-reverse}
use Rattle.std.proofs.lemmas.Option.{option_and_then_some, same_Some}
use Rattle.cb_classfile.specs.declared.body.Body.{Body}
use Rattle.cb_classfile.specs.declared.class.ClassFile.{ClassFile}
use Rattle.cb_classfile.specs.declared.method.Method.{Method}
use Rattle.cb_classfile.specs.Pool.{text_at}
use Rattle.cb_hierarchy.specs.Classes.{superclass}
use Rattle.cb_hierarchy.specs.Orders.{in_turns, upwards, upwards_by}
use Rattle.cb_hierarchy.specs.Resolution.{method_is}
use Rattle.cb_hierarchy.specs.declared.class.Class.{Class as Ranked}
use Rattle.cb_insn.specs.declared.insn.Insn.{Insn}
use Rattle.cb_kinds.specs.Texts.{same_text}
use Rattle.cb_kinds.specs.declared.basic.Basic.{Basic}
use Rattle.cb_link.specs.Having.{IsWhole, parameters_at}
use Rattle.cb_link.specs.Named.{code_at, insn_in}
use Rattle.cb_link.specs.Numbers.{Numbered, class_number, hierarchy, or_none, ranked, ranked_methods}
use Rattle.cb_link.specs.Program.{Linked}
use Rattle.cb_link.specs.declared.linked.LinkedMethod.{LinkedMethod}
use Rattle.cb_link.specs.declared.named.Named.TheVariants as meanings
use Rattle.cb_machine.specs.Calling.{asked_sorts, invokes_special}
use Rattle.cb_machine.specs.Entering.{entered_upon}
use Rattle.cb_machine.specs.Machine.{Machine, class_declaring, method_numbered}
use Rattle.cb_machine.specs.Standing.{Now, named_here, taken, with_stack}
use Rattle.cb_machine.specs.Steps.{done}
use Rattle.cb_machine.specs.Values.{sort_of_basic}
use Rattle.cb_plain.specs.State.{Frame, MethodFrame, Object as StateObject, OfMethod, State}
use Rattle.cb_plain.specs.Updates.{object_at}
use Rattle.cb_plain.specs.declared.value.Value.{Value}
use Rattle.cb_plain.specs.declared.value.Value.TheVariants as values
use Rattle.cb_shapes.specs.Shapes.{action_of}
use Rattle.cb_shapes.specs.declared.action.Action.TheVariants as actions
use Rattle.cb_shapes.specs.declared.sort.Sort.{Sort}
use Rattle.cb_shapes.specs.declared.sort.Sort.TheVariants as sorts
use Rattle.cb_text.specs.Naming.{MemberNames, member_at as member_named}
use Rattle.cb_verify.specs.declared.verification_type.VerificationType.{VerificationType}
use Rattle.cb_verify.specs.declared.verification_type.VerificationType.TheVariants.{New, This}
use Rattle.cb_verify.specs.Calls.{call_special, popped}
use Rattle.cb_verify.specs.Expansion.{start_types, this_types}
use Rattle.cb_verify.specs.Frames as verified
use Rattle.cb_verify.specs.Leaving.{all_replaced, construct, constructed, finished}
use Rattle.cb_verify.specs.Members.{Member, member_at, taken_types}
use Rattle.cb_verify.specs.Typed.{IsTyped}
use Rattle.cb_verify.specs.Types.{is_of, kind_goes_to, type_of}
use Rattle.cb_verify.specs.Within.{Within, holder, is_init}
use Rattle.cb_safety.specs.Advancing.{Advances, HoldsOn, HoldsOwn, IsSpelled}
use Rattle.cb_safety.specs.Beginning.{HasCode}
use Rattle.cb_safety.specs.Calling.{CallsConstructor, GoesAbove}
use Rattle.cb_safety.specs.Frames.{result_at, result_types}
use Rattle.cb_safety.specs.Heap.{IsHeap}
use Rattle.cb_safety.specs.Held.{HaveTypes}
use Rattle.cb_safety.specs.Kinds.{IsOfKind, Kinds, holds_kind, kinds_of}
use Rattle.cb_safety.specs.States.{IsTypedState}
use Rattle.cb_safety.specs.Throwing.{AreThrown}
use Rattle.cb_safety.proofs.Assigned.{mapped, never, when}
use Rattle.cb_safety.proofs.Beginning.{method_begins}
use Rattle.cb_safety.proofs.Called.{Call, HasParts, call_of, class_low, enters, falls_by, has_parts, leaves_by, member_there, parameters_there, sorts_are}
use Rattle.cb_safety.proofs.Entering.{AreTold, basics_elsewhere, basics_told, both_have, is_told, map_reverse}
use Rattle.cb_safety.proofs.Entries.{within_method}
use Rattle.cb_safety.proofs.Going.{Planned, advances_by, now_at, planned_by, running}
use Rattle.cb_safety.proofs.Lists.{all_both}
use Rattle.cb_safety.proofs.Receiving.{HasObject, InFront, IsThis, Receiver, has_object, held_low, object_in_front, object_taken, received, this_typed}
use Rattle.cb_safety.proofs.Returning.{none_there}
use Rattle.cb_safety.proofs.Taken.{Taken, popped_typed, taken_behind}
use Rattle.cb_safety.proofs.Variables.{replaced_stack, replaced_types}

-- ---- what the machine does

special_enters : (now : Now) (index number place class own_class : ℕ) (held arguments left : List Value) (numbered own : Numbered Method) (member : MemberNames)
    (more : List ℕ) (object : StateObject) (body : Body)
    → named_here now ≡ meanings.Method number
    → taken (asked_sorts now.machine.program number ++ sorts.Reference ∷ []) now.frame.stack ≡ Some (held, left)
    → reverse held ≡ values.Ref (suc place) ∷ arguments
    → object_at now.state (suc place) ≡ Some object
    → class_declaring now.machine.program now.frame.method ≡ Some own_class
    → method_numbered now.machine.program number ≡ Some numbered
    → same_text (or_none (text_at numbered.pool numbered.member.name)) (codes "<init>") ≡ true
    → method_numbered now.machine.program now.frame.method ≡ Some own
    → member_named own.pool index ≡ Some member
    → class_number now.machine.program.classes member.class ≡ Some class
    → class_declaring now.machine.program number ≡ Some class
    → upwards (hierarchy now.machine.program.classes) class ≡ class ∷ more
    → (class == class) ≡ true
    → method_is (ranked_methods now.machine.program.classes) (λ own. own.is_abstract) number ≡ false
    → numbered.member.body ≡ Some body
    → invokes_special now index ≡ Some (entered_upon now.machine now.state (OfMethod (with_stack now.frame left) ∷ now.below) number (values.Ref (suc place) ∷ arguments) body)
special_enters now index number place class own_class held arguments left numbered own member more object body
    names took first there declares found init found_own member_is class_is declared up same concrete has =
    rw (names, took, first, there, declares, found, init, found_own, member_is, class_is, declared, up, same, concrete, found, has) refl

-- a class is the first of those from it upwards
pub record First (class : ℕ) (found : List ℕ) : Type 0 where
  pub more : List ℕ
  pub is : found ≡ class ∷ more

first_among : (classes : List Ranked) (class : ℕ) → 0 < length classes → First class (upwards classes class)
first_among [] class low = absurd (omega (arith, low))
first_among (one ∷ others) class low =
    record { more = flat_map (in_turns (upwards_by (one ∷ others)) (length others)) (superclass (one ∷ others) class); is = refl }

pub first_upwards : (classes : List ClassFile) (class : ℕ) → class < length classes → First class (upwards (hierarchy classes) class)
first_upwards classes class low = first_among (hierarchy classes) class (omega (arith, low, length-map classes (ranked classes)))

-- ---- what the verifier's rule says

pub finished_reference : (method : Within) (kind : ℕ) (object type : VerificationType) → finished method kind object ≡ Some type → is_of sorts.Reference object ≡ true
finished_reference method kind This type is = refl
finished_reference method kind (New place) type is = refl
finished_reference method kind object type is = never is

pub record Constructed (method : Within) (kind : ℕ) (frame after : verified.Frame) (member : Member) : Type 0 where
  pub object : VerificationType
  pub type : VerificationType
  pub rest : List VerificationType
  pub none : member.gives ≡ None
  pub off : popped method.program (taken_types member) frame.stack ≡ Some (object ∷ rest)
  pub finishes : finished method kind object ≡ Some type
  pub locals : after.locals ≡ verified.replaced object type frame.locals
  pub stack : after.stack ≡ verified.replaced object type rest

constructed_on : (method : Within) (kind : ℕ) (frame after : verified.Frame) (member : Member) (off : List VerificationType) → member.gives ≡ None
    → popped method.program (taken_types member) frame.stack ≡ Some off → constructed method kind frame off ≡ Some after → Constructed method kind frame after member
constructed_on method kind frame after member [] none off so = never so
constructed_on method kind frame after member (object ∷ rest) none off so =
    mapped (λ (type : VerificationType). all_replaced object type frame rest) (finished method kind object) after so
    (λ type finishes same. record {
      object = object;
      type = type;
      rest = rest;
      none = none;
      off = off;
      finishes = finishes;
      locals = sym (ap (λ (own : verified.Frame). own.locals) same);
      stack = sym (ap (λ (own : verified.Frame). own.stack) same);
    })

pub constructed_by : (method : Within) (index kind : ℕ) (frame after : verified.Frame) (member : Member) → holder method index ≡ Some kind → construct method index member frame ≡ Some after
    → Constructed method kind frame after member
constructed_by method index kind frame after member holds so =
    let (gives, rule) = when (is_none member.gives)
    (option_and_then (λ (kind : ℕ). option_and_then (constructed method kind frame) (popped method.program (taken_types member) frame.stack)) (holder method index)) after so in
    option_and_then_some (constructed method kind frame) (popped method.program (taken_types member) frame.stack) after
    (sym (ap (option_and_then (λ (kind : ℕ). option_and_then (constructed method kind frame) (popped method.program (taken_types member) frame.stack))) holds) ∙ rule)
    (λ off popped_is on. constructed_on method kind frame after member off (none_there member.gives gives) popped_is on)

-- ---- a call

module _ (machine : Machine) (state : State) (frame : MethodFrame) (below : List Frame) (insn : Insn) (index : ℕ) (callee : Within)
    (fits : IsTyped machine.program) (spelled : IsSpelled machine.program) (coded : HasCode machine.program) (whole : IsWhole machine.program) (thrown : AreThrown machine.program)
    (owns : HoldsOwn machine.program) (up : GoesAbove machine.program)
    (call : Call machine state frame below insn (actions.InvokeSpecial index)) (calls : CallsConstructor machine.program frame.method frame.pc index call.at.method callee) where
  abbrev kinds : Kinds
  kinds = kinds_of state.objects

  abbrev here : Now
  here = now_at machine state frame below

  abbrev number : ℕ
  number = callee.number

  abbrev method : Within
  method = call.at.method

  parts : HasParts machine.program number callee
  parts = has_parts machine.program number callee calls.within

  caller : HasParts machine.program frame.method method
  caller = has_parts machine.program frame.method method call.at.within

  abbrev wanted : List Basic
  wanted = parts.linked.parameters

  by_rule : Constructed method callee.class call.at.types call.after (record { takes = reverse wanted; gives = parts.linked.result })
  by_rule =
      subst (λ (member : Member). Constructed method callee.class call.at.types call.after member)
      (member_there machine.program frame.method frame.pc number method parts.linked call.at.within calls.named parts.is_linked)
      (constructed_by method index callee.class call.at.types call.after (member_at method frame.pc) calls.names_kind
      (sym (ap (λ (test : Bool). if test then construct method index (member_at method frame.pc) call.at.types else call_special method index (member_at method frame.pc) call.at.types)
      calls.names_constructor) ∙ leaves_by machine state frame below insn (actions.InvokeSpecial index) call))

  chain : HoldsOn method.program
  chain = subst HoldsOn (sym call.own) call.holds

  took : Taken method kinds (map sort_of_basic (reverse wanted)) frame.stack (map type_of (reverse wanted)) (by_rule.object ∷ by_rule.rest)
  took = popped_typed method chain kinds (reverse wanted) call.at.types.stack frame.stack (by_rule.object ∷ by_rule.rest) call.stack by_rule.off

  all : Taken method kinds (map sort_of_basic (reverse wanted) ++ sorts.Reference ∷ []) frame.stack (map type_of (reverse wanted) ++ by_rule.object ∷ []) by_rule.rest
  all =
      taken_behind method kinds (map sort_of_basic (reverse wanted)) (sorts.Reference ∷ []) frame.stack (map type_of (reverse wanted)) (by_rule.object ∷ by_rule.rest)
      (by_rule.object ∷ []) by_rule.rest took
      (λ left is. object_taken method kinds by_rule.object by_rule.rest left (finished_reference method callee.class by_rule.object by_rule.type by_rule.finishes) is)

  off : taken (asked_sorts machine.program number ++ sorts.Reference ∷ []) frame.stack ≡ Some (all.values, all.left)
  off = ap (λ (asked : List Sort). taken (asked ++ sorts.Reference ∷ []) frame.stack) (sorts_are machine.program number parts.linked parts.is_linked) ∙ all.taken

  front : InFront method kinds by_rule.object (reverse (map type_of (reverse wanted))) (reverse all.values)
  front = object_in_front method kinds by_rule.object (map type_of (reverse wanted)) all.values all.held

  receiver : Receiver method.program kinds callee.class by_rule.object front.value
  receiver =
      received method state.objects callee.class by_rule.object by_rule.type front.value chain (subst HoldsOwn (sym call.own) owns)
      (subst (λ (program : Linked). IsHeap program state.objects) (sym call.own) call.typed.heap)
      (λ above is. subst (λ (program : Linked). kind_goes_to program method.class above ≡ true) (sym call.own) (up frame.method above method call.at.within is))
      by_rule.finishes front.has

  has : HasObject state.objects receiver.serial receiver.of.own
  has = has_object state.objects receiver.serial receiver.of.own receiver.of.there

  first : reverse all.values ≡ values.Ref (suc has.place) ∷ front.arguments
  first = front.is ∙ ap (λ (value : Value). value ∷ front.arguments) (receiver.is ∙ ap values.Ref has.is)

  own : callee.program ≡ machine.program
  own = (within_method machine.program number callee calls.within).own

  of_class : IsOfKind callee.program kinds callee.class (suc has.place)
  of_class =
      subst (λ (serial : ℕ). IsOfKind callee.program kinds callee.class serial) has.is
      (subst (λ (program : Linked). IsOfKind program kinds callee.class receiver.serial) (call.own ∙ sym own) receiver.of)

  this : IsThis callee kinds (suc has.place)
  this = this_typed callee kinds (suc has.place) calls.is_of_object of_class

  others : HaveTypes callee kinds (map type_of wanted) front.arguments
  others =
      basics_elsewhere method callee kinds wanted front.arguments (call.own ∙ sym own)
      (subst (λ (types : List VerificationType). HaveTypes method kinds types front.arguments)
      (sym (map_reverse type_of (reverse wanted)) ∙ ap (map type_of) (reverse-reverse wanted)) front.have)

  starts : start_types callee ≡ this_types callee ++ map type_of wanted
  starts =
      ap (λ (program : Linked). this_types callee ++ map type_of (parameters_at program number)) own
      ∙ ap (λ (own : List Basic). this_types callee ++ map type_of own) (parameters_there machine.program number parts.linked parts.is_linked)

  gives : call.after.stack ≡ result_types (result_at machine.program number) ++ verified.replaced by_rule.object by_rule.type by_rule.rest
  gives =
      by_rule.stack
      ∙ ap (λ (result : Option Basic). result_types result ++ verified.replaced by_rule.object by_rule.type by_rule.rest)
      (sym (ap (option_and_then (λ (linked : LinkedMethod). linked.result)) parts.is_linked ∙ by_rule.none))

  holds_class : holds_kind method.program callee.class callee.class ≡ true
  holds_class = subst HoldsOwn (sym call.own) owns callee.class (held_low method.program receiver.of.own callee.class receiver.of.goes)

  entered : Planned machine.program
      (Some (entered_upon machine state (OfMethod (with_stack frame all.left) ∷ below) number (values.Ref (suc has.place) ∷ front.arguments) callee.body))
  entered =
      enters machine state frame below insn (actions.InvokeSpecial index) call all.left (values.Ref (suc has.place) ∷ front.arguments)
      (verified.replaced by_rule.object by_rule.type by_rule.rest) number callee thrown calls.within
      (method_begins machine.program number callee fits spelled coded calls.within)
      (subst (λ (types : List VerificationType). HaveTypes callee kinds types (values.Ref (suc has.place) ∷ front.arguments)) (sym starts)
      (both_have callee kinds (this_types callee) (map type_of wanted) (values.Ref (suc has.place) ∷ []) front.arguments this.have others))
      (subst AreTold (sym starts) (all_both (λ (type : VerificationType). is_told type ≡ true) (this_types callee) (map type_of wanted) this.told (basics_told wanted)))
      (falls_by insn (actions.InvokeSpecial index) call.acts refl) gives
      (subst (λ (types : List VerificationType). HaveTypes method kinds types frame.locals) (sym by_rule.locals)
      (replaced_types method kinds callee.class by_rule.object by_rule.type call.at.types.locals frame.locals holds_class by_rule.finishes call.locals))
      (replaced_stack method kinds callee.class by_rule.object by_rule.type by_rule.rest all.left holds_class by_rule.finishes all.below)

  class_is_low : callee.class < length machine.program.classes
  class_is_low = omega (arith, parts.class, class_low machine.program number parts.linked whole parts.is_linked)

  pub constructor_advances : Planned machine.program (invokes_special here index)
  constructor_advances =
      option_and_then_some (λ (member : MemberNames). class_number machine.program.classes member.class) (member_named caller.numbered.pool index) callee.class
      (sym (ap (option_and_then (λ (own : Numbered Method). option_and_then (λ (member : MemberNames). class_number machine.program.classes member.class) (member_named own.pool index)))
      caller.is_numbered) ∙ calls.names_class) by
    where
      by : (member : MemberNames) → member_named caller.numbered.pool index ≡ Some member → class_number machine.program.classes member.class ≡ Some callee.class
          → Planned machine.program (invokes_special here index)
      by member there class_is =
          let upward : First callee.class (upwards (hierarchy machine.program.classes) callee.class) = first_upwards machine.program.classes callee.class class_is_low in
          planned_by machine.program (invokes_special here index)
          (Some (entered_upon machine state (OfMethod (with_stack frame all.left) ∷ below) number (values.Ref (suc has.place) ∷ front.arguments) callee.body))
          (special_enters here index number has.place callee.class method.class all.values front.arguments all.left parts.numbered caller.numbered member upward.more has.object callee.body
          calls.named off first (subst (λ (serial : ℕ). object_at state serial ≡ Some has.object) has.is has.there)
          (ap (option_map (λ (own : LinkedMethod). own.class)) caller.is_linked ∙ ap {B = Option ℕ} Some caller.class)
          parts.is_numbered
          (sym (ap (λ (found : Option (Numbered Method)). is_init (or_none (option_and_then (λ (own : Numbered Method). text_at own.pool own.member.name) found))) parts.is_numbered)
          ∙ calls.is_constructor)
          caller.is_numbered there class_is
          (ap (option_map (λ (own : LinkedMethod). own.class)) parts.is_linked ∙ ap {B = Option ℕ} Some parts.class)
          upward.is (eq-eqb callee.class callee.class refl) calls.is_concrete parts.body)
          entered

-- ---- the state

pub constructor_calls_advance : (machine : Machine) (state : State) (frame : MethodFrame) (below : List Frame) (insn : Insn) (index : ℕ) (from callee : Within)
    → IsTyped machine.program → IsSpelled machine.program → HoldsOn machine.program → HasCode machine.program → IsWhole machine.program → AreThrown machine.program
    → HoldsOwn machine.program → GoesAbove machine.program
    → IsTypedState machine.program state → state.exit ≡ None → state.roots.pending ≡ 0 → state.roots.frames ≡ OfMethod frame ∷ below
    → insn_in (code_at machine.program frame.method) frame.pc ≡ Some insn → action_of insn ≡ Some (actions.InvokeSpecial index)
    → CallsConstructor machine.program frame.method frame.pc index from callee → Advances machine state
constructor_calls_advance machine state frame below insn index from callee fits spelled holds coded whole thrown owns above typed none runs frames there so calls =
    advances_by machine state (done (now_at machine state frame below) insn.operand (actions.InvokeSpecial index))
    (running machine state frame below insn (actions.InvokeSpecial index) none runs frames there so)
    (constructor_advances machine state frame below insn index callee fits spelled coded whole thrown owns above call
    (subst (λ (own : Within). CallsConstructor machine.program frame.method frame.pc index own callee)
    (same_Some from call.at.method (sym calls.from_within ∙ call.at.within)) calls))
  where
    call : Call machine state frame below insn (actions.InvokeSpecial index)
    call = call_of machine state frame below insn (actions.InvokeSpecial index) fits spelled holds typed runs frames there so
