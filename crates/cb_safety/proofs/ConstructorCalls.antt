-- A typed state advances at a call of a constructor, in a linked program.
use Rattle.std.proofs.Common.{◌≡◌, ◌∙◌, ap, refl, sym, subst, subst₂, ℕ, suc, ◌<◌, ◌==◌, Bool, true, false, not, ◌||◌, ◌&&◌, List, [], ◌∷◌, ◌++◌, length, map, reverse, Option, Some, None, option_and_then, option_map, slice_get, if◌then◌else◌}
use Rattle.std.specs.Prelude.{codes}
use Rattle.std.proofs.lemmas.Bool.{eq-eqb, eqb-true, false≢true}
use Rattle.std.proofs.lemmas.List.{reverse-reverse}
use Rattle.cb_classfile.specs.declared.method.Method.{Method}
use Rattle.cb_classfile.specs.Pool.{text_at}
use Rattle.cb_hierarchy.specs.declared.member.Method.{Method as RankedMethod}
use Rattle.cb_hierarchy.specs.Orders.{upwards}
use Rattle.cb_hierarchy.specs.Selection.{found}
use Rattle.cb_hierarchy.specs.declared.selected.Selected.TheVariants as chosen
use Rattle.cb_insn.specs.declared.insn.Insn.{Insn}
use Rattle.cb_insn.specs.declared.opcode.TheConstants as opcodes
use Rattle.cb_kinds.specs.Texts.{same_text}
use Rattle.cb_kinds.specs.declared.basic.Basic.{Basic}
use Rattle.cb_link.specs.Having.{parameters_at}
use Rattle.cb_link.specs.Numbers.{Numbered, class_number, hierarchy, or_none, ranked_methods, same_name}
use Rattle.cb_link.specs.Program.{Linked, linked_method}
use Rattle.cb_link.specs.Special.{holder_named, special}
use Rattle.cb_link.specs.declared.linked.LinkedMethod.{LinkedMethod}
use Rattle.cb_link.specs.declared.named.Named.TheVariants as meanings
use Rattle.cb_machine.specs.Calling.{asked_sorts, invokes_special}
use Rattle.cb_machine.specs.Machine.{Machine, class_declaring, method_numbered}
use Rattle.cb_machine.specs.Standing.{Now, named_here, taken}
use Rattle.cb_machine.specs.Steps.{plan}
use Rattle.cb_machine.specs.Values.{sort_of_basic}
use Rattle.cb_names.specs.Signs.{name_init}
use Rattle.cb_plain.specs.State.{Frame, MethodFrame, Object as StateObject, State}
use Rattle.cb_plain.specs.Updates.{object_at}
use Rattle.cb_plain.specs.declared.value.Value.{Value}
use Rattle.cb_plain.specs.declared.value.Value.TheVariants as values
use Rattle.cb_shapes.specs.declared.action.Action.TheVariants as actions
use Rattle.cb_shapes.specs.declared.sort.Sort.{Sort}
use Rattle.cb_shapes.specs.declared.sort.Sort.TheVariants as sorts
use Rattle.cb_text.specs.Naming.{MemberNames, member_at as member_named}
use Rattle.cb_verify.specs.declared.verification_type.VerificationType.{VerificationType}
use Rattle.cb_verify.specs.Calls.{call_special}
use Rattle.cb_verify.specs.Frames as verified
use Rattle.cb_verify.specs.Leaving.{construct}
use Rattle.cb_verify.specs.Members.{Member, member_at}
use Rattle.cb_verify.specs.Typed.{IsTyped}
use Rattle.cb_verify.specs.Types.{kind_goes_to, type_of}
use Rattle.cb_verify.specs.Within.{Within, holder, is_init, name_at}
use Rattle.cb_safety.specs.Advancing.{Advances, HoldsOn, HoldsOwn}
use Rattle.cb_safety.specs.Frames.{result_types}
use Rattle.cb_safety.specs.Heap.{IsHeap}
use Rattle.cb_safety.specs.Held.{HaveTypes}
use Rattle.cb_safety.specs.Kinds.{IsOfKind, Kinds, holds_kind, kinds_of}
use Rattle.cb_safety.specs.Natives.{CallsNative}
use Rattle.cb_safety.proofs.CallNames.{NamesMethod}
use Rattle.cb_safety.proofs.Called.{Call, HasParts, class_low, falls_by, has_parts, leaves_by, member_there, parameters_there, sorts_are}
use Rattle.cb_safety.proofs.Chosen.{found_is}
use Rattle.cb_safety.proofs.Constructing.{Constructed, First, constructed_by, finished_reference, first_upwards}
use Rattle.cb_safety.proofs.Entering.{map_reverse}
use Rattle.cb_safety.proofs.Going.{now_at}
use Rattle.cb_safety.proofs.Links.{Links}
use Rattle.cb_safety.proofs.Receiving.{HasObject, InFront, OnObject, Receiver, has_object, held_low, in_order, object_in_front, object_taken, received}
use Rattle.cb_safety.proofs.Runs.{Given, IsReceiver, MayRun, Takes, by_method, is_static_method, linked_there, selected_advances}
use Rattle.cb_safety.proofs.Signed.{found_texts, kind_numbered}
use Rattle.cb_safety.proofs.Taken.{Taken, popped_typed, taken_behind}
use Rattle.cb_safety.proofs.Variables.{replaced_stack, replaced_types}

-- ---- what the machine does

constructor_selected : (program : Linked) (caller index number class own_class : ℕ) (numbered own : Numbered Method) (member : MemberNames) (more : List ℕ)
    → class_declaring program caller ≡ Some own_class
    → method_numbered program number ≡ Some numbered
    → same_text (or_none (text_at numbered.pool numbered.member.name)) (codes "<init>") ≡ true
    → method_numbered program caller ≡ Some own
    → member_named own.pool index ≡ Some member
    → class_number program.classes member.class ≡ Some class
    → class_declaring program number ≡ Some class
    → upwards (hierarchy program.classes) class ≡ class ∷ more
    → (class == class) ≡ true
    → special program number (class_declaring program caller) (option_and_then (class_number program.classes) (holder_named program caller index))
    ≡ found (ranked_methods program.classes) number
constructor_selected program caller index number class own_class numbered own member more declares found init found_own member_is class_is declared up same =
    rw (declares, found, init, found_own, member_is, class_is, declared, up, same) refl

constructor_runs : (now : Now) (index number place class own_class : ℕ) (held arguments left : List Value) (numbered own : Numbered Method) (member : MemberNames)
    (more : List ℕ) (object : StateObject)
    → named_here now ≡ meanings.Method number
    → taken (asked_sorts now.machine.program number ++ sorts.Reference ∷ []) now.frame.stack ≡ Some (held, left)
    → reverse held ≡ values.Ref (suc place) ∷ arguments
    → object_at now.state (suc place) ≡ Some object
    → class_declaring now.machine.program now.frame.method ≡ Some own_class
    → method_numbered now.machine.program number ≡ Some numbered
    → same_text (or_none (text_at numbered.pool numbered.member.name)) (codes "<init>") ≡ true
    → method_numbered now.machine.program now.frame.method ≡ Some own
    → member_named own.pool index ≡ Some member
    → class_number now.machine.program.classes member.class ≡ Some class
    → class_declaring now.machine.program number ≡ Some class
    → upwards (hierarchy now.machine.program.classes) class ≡ class ∷ more
    → (class == class) ≡ true
    → invokes_special now index ≡ by_method now (values.Ref (suc place) ∷ arguments) left (found (ranked_methods now.machine.program.classes) number)
constructor_runs now index number place class own_class held arguments left numbered own member more object
    names took first there declares found init found_own member_is class_is declared up same =
    rw (names, took, first, there)
    (ap (by_method now (values.Ref (suc place) ∷ arguments) left)
    (constructor_selected now.machine.program now.frame.method index number class own_class numbered own member more declares found init found_own member_is class_is declared up same))

-- ---- what linking asks of a constructor

abbrev is_class : Option ℕ → ℕ → Bool
is_class None class = false
is_class (Some number) class = number == class

record SuitsConstructor (named : Option ℕ) (static : Bool) (class : ℕ) : Type 0 where
  pub of_objects : static ≡ false
  pub names : named ≡ Some class

suits_constructor : (named : Option ℕ) (static init : Bool) (class : ℕ) → init ≡ true → (not static && (not init || is_class named class)) ≡ true → SuitsConstructor named static class
suits_constructor named true init class is so = absurd (false≢true so)
suits_constructor named false false class is so = absurd (false≢true is)
suits_constructor None false true class is so = absurd (false≢true so)
suits_constructor (Some number) false true class is so = record { of_objects = refl; names = ap {B = Option ℕ} Some (eqb-true number class so) }

-- ---- a call

module _ (machine : Machine) (state : State) (frame : MethodFrame) (below : List Frame) (insn : Insn) (index : ℕ) (linked : Links machine.program)
    (call : Call machine state frame below insn (actions.InvokeSpecial index)) (names : NamesMethod machine.program frame.method frame.pc opcodes.INVOKESPECIAL index call.at.method)
    (init : is_init (name_at call.at.method index) ≡ true) where
  abbrev kinds : Kinds
  kinds = kinds_of state.objects

  abbrev own : Numbered Method
  own = names.declared.own

  abbrev number : ℕ
  number = names.callee.number

  abbrev method : Within
  method = call.at.method

  abbrev class : ℕ
  class = own.class

  abbrev wanted : List Basic
  wanted = (linked_method machine.program.kinds own).parameters

  abbrev result : Option Basic
  result = (linked_method machine.program.kinds own).result

  caller : HasParts machine.program frame.method method
  caller = has_parts machine.program frame.method method call.at.within

  is_linked : slice_get machine.program.methods number ≡ Some (linked_method machine.program.kinds own)
  is_linked = linked_there machine.program linked.whole number own names.declared.there

  names_init : same_name names.member.name name_init ≡ true
  names_init = ap is_init (sym names.name) ∙ init

  constructs : SuitsConstructor (class_number machine.program.classes names.member.class) names.callee.method.is_static names.callee.method.declared.class
  constructs =
      suits_constructor (class_number machine.program.classes names.member.class) names.callee.method.is_static (same_name names.member.name name_init) names.callee.method.declared.class names_init
      names.callee.suits

  of_objects : is_static_method own ≡ false
  of_objects = ap (λ (method : RankedMethod). method.is_static) names.declared.is ∙ constructs.of_objects

  class_is : class_number machine.program.classes names.member.class ≡ Some class
  class_is = constructs.names ∙ ap (λ (method : RankedMethod). Some method.declared.class) (sym names.declared.is)

  kind_is : holder method index ≡ Some class
  kind_is = names.holder ∙ kind_numbered machine.program linked.whole linked.once names.member.class class class_is

  own_name : same_text (or_none (text_at own.pool own.member.name)) (codes "<init>") ≡ true
  own_name =
      ap (λ (texts : List ℕ × List ℕ). is_init texts.0) (found_texts machine.program.classes names.member number own linked.whole.good names.callee.found names.declared.there)
      ∙ names_init

  -- what the verifier's rule says
  by_rule : Constructed method class call.at.types call.after (record { takes = reverse wanted; gives = result })
  by_rule =
      subst (λ (member : Member). Constructed method class call.at.types call.after member)
      (member_there machine.program frame.method frame.pc number method (linked_method machine.program.kinds own) call.at.within names.names is_linked)
      (constructed_by method index class call.at.types call.after (member_at method frame.pc) kind_is
      (sym (ap (λ (test : Bool). if test then construct method index (member_at method frame.pc) call.at.types else call_special method index (member_at method frame.pc) call.at.types) init)
      ∙ leaves_by machine state frame below insn (actions.InvokeSpecial index) call))

  chain : HoldsOn method.program
  chain = subst HoldsOn (sym call.own) call.holds

  took : Taken method kinds (map sort_of_basic (reverse wanted)) frame.stack (map type_of (reverse wanted)) (by_rule.object ∷ by_rule.rest)
  took = popped_typed method chain kinds (reverse wanted) call.at.types.stack frame.stack (by_rule.object ∷ by_rule.rest) call.stack by_rule.off

  all : Taken method kinds (map sort_of_basic (reverse wanted) ++ sorts.Reference ∷ []) frame.stack (map type_of (reverse wanted) ++ by_rule.object ∷ []) by_rule.rest
  all =
      taken_behind method kinds (map sort_of_basic (reverse wanted)) (sorts.Reference ∷ []) frame.stack (map type_of (reverse wanted)) (by_rule.object ∷ by_rule.rest)
      (by_rule.object ∷ []) by_rule.rest took
      (λ left is. object_taken method kinds by_rule.object by_rule.rest left (finished_reference method class by_rule.object by_rule.type by_rule.finishes) is)

  off : taken (asked_sorts machine.program number ++ sorts.Reference ∷ []) frame.stack ≡ Some (all.values, all.left)
  off = ap (λ (asked : List Sort). taken (asked ++ sorts.Reference ∷ []) frame.stack) (sorts_are machine.program number (linked_method machine.program.kinds own) is_linked) ∙ all.taken

  front : InFront method kinds by_rule.object (reverse (map type_of (reverse wanted))) (reverse all.values)
  front = object_in_front method kinds by_rule.object (map type_of (reverse wanted)) all.values all.held

  receiver : Receiver method.program kinds class by_rule.object front.value
  receiver =
      received method state.objects class by_rule.object by_rule.type front.value chain (subst HoldsOwn (sym call.own) linked.owns)
      (subst (λ (program : Linked). IsHeap program state.objects) (sym call.own) call.typed.heap)
      (λ above is. subst (λ (program : Linked). kind_goes_to program method.class above ≡ true) (sym call.own) (linked.above frame.method above method call.at.within is))
      by_rule.finishes front.has

  has : HasObject state.objects receiver.serial receiver.of.own
  has = has_object state.objects receiver.serial receiver.of.own receiver.of.there

  first : reverse all.values ≡ values.Ref (suc has.place) ∷ front.arguments
  first = front.is ∙ ap (λ (value : Value). value ∷ front.arguments) (receiver.is ∙ ap values.Ref has.is)

  of_class : IsOfKind machine.program kinds class (suc has.place)
  of_class =
      subst (λ (serial : ℕ). IsOfKind machine.program kinds class serial) has.is
      (subst (λ (program : Linked). IsOfKind program kinds class receiver.serial) call.own receiver.of)

  others : HaveTypes method kinds (map type_of wanted) front.arguments
  others =
      subst (λ (types : List VerificationType). HaveTypes method kinds types front.arguments)
      (sym (map_reverse type_of (reverse wanted)) ∙ ap (map type_of) (reverse-reverse wanted)) front.have

  holds_class : holds_kind method.program class class ≡ true
  holds_class = subst HoldsOwn (sym call.own) linked.owns class (held_low method.program receiver.of.own class receiver.of.goes)

  given_front : Given machine.program kinds method own (values.Ref (suc has.place) ∷ front.arguments)
  given_front = record {
    receiver = values.Ref (suc has.place) ∷ [];
    others = front.arguments;
    are = refl;
    on = subst (λ (static : Bool). IsReceiver machine.program kinds own.class static (values.Ref (suc has.place) ∷ [])) (sym of_objects) (IsReceiver.AnObject (suc has.place) of_class);
    have = others;
  }

  may : MayRun machine state frame below insn (actions.InvokeSpecial index) call number (values.Ref (suc has.place) ∷ front.arguments) all.left
  may = record {
    own = own;
    there = names.declared.there;
    given = given_front;
    ready = record {
      rest = verified.replaced by_rule.object by_rule.type by_rule.rest;
      falls = falls_by insn (actions.InvokeSpecial index) call.acts refl;
      answered = by_rule.stack ∙ ap (λ (result : Option Basic). result_types result ++ verified.replaced by_rule.object by_rule.type by_rule.rest) (sym by_rule.none);
      locals = subst (λ (types : List VerificationType). HaveTypes method kinds types frame.locals) (sym by_rule.locals)
          (replaced_types method kinds class by_rule.object by_rule.type call.at.types.locals frame.locals holds_class by_rule.finishes call.locals);
      stack = replaced_stack method kinds class by_rule.object by_rule.type by_rule.rest all.left holds_class by_rule.finishes all.below;
    };
  }

  class_is_low : class < length machine.program.classes
  class_is_low = class_low machine.program number (linked_method machine.program.kinds own) linked.whole is_linked

  upward : First class (upwards (hierarchy machine.program.classes) class)
  upward = first_upwards machine.program.classes class class_is_low

  declares : class_declaring machine.program frame.method ≡ Some method.class
  declares = ap (option_map (λ (own : LinkedMethod). own.class)) caller.is_linked ∙ ap {B = Option ℕ} Some caller.class

  declared : class_declaring machine.program number ≡ Some class
  declared = ap (option_map (λ (own : LinkedMethod). own.class)) is_linked

  selects : special machine.program number (class_declaring machine.program frame.method)
      (option_and_then (class_number machine.program.classes) (holder_named machine.program frame.method index))
      ≡ found (ranked_methods machine.program.classes) number
  selects =
      constructor_selected machine.program frame.method index number class method.class own names.calling names.member upward.more declares names.declared.there own_name names.calls names.constant class_is
      declared upward.is (eq-eqb class class refl)

  -- the constructor takes the arguments that stand on the stack
  pub constructor_takes : (other : ℕ) (arguments : List Value) → OnObject state frame (length (parameters_at machine.program number)) arguments
      → special machine.program number (class_declaring machine.program frame.method)
      (option_and_then (class_number machine.program.classes) (holder_named machine.program frame.method index))
      ≡ chosen.Method other
      → Takes machine.program kinds method other arguments
  constructor_takes other arguments on is =
      subst₂ (Takes machine.program kinds method) (found_is (ranked_methods machine.program.classes) number other (sym selects ∙ is))
      (sym first
      ∙ in_order method kinds state frame wanted (map type_of (reverse wanted) ++ by_rule.object ∷ []) by_rule.rest all (length (parameters_at machine.program number)) arguments
      (ap (λ (own : List Basic). length own) (parameters_there machine.program number (linked_method machine.program.kinds own) is_linked)) on)
      (record { own = own; there = names.declared.there; given = given_front })

  pub constructor_advances : IsTyped machine.program → (CallsNative machine state frame below → Advances machine state)
      → plan machine state ≡ invokes_special (now_at machine state frame below) index → Advances machine state
  constructor_advances fits natives does =
      selected_advances machine state frame below insn (actions.InvokeSpecial index) call fits linked.spelled linked.coded linked.whole linked.thrown natives
      (found (ranked_methods machine.program.classes) number) (values.Ref (suc has.place) ∷ front.arguments) all.left
      (λ other is. subst (λ (number : ℕ). MayRun machine state frame below insn (actions.InvokeSpecial index) call number (values.Ref (suc has.place) ∷ front.arguments) all.left)
      (found_is (ranked_methods machine.program.classes) number other is) may)
      (does
      ∙ constructor_runs (now_at machine state frame below) index number has.place class method.class all.values front.arguments all.left own names.calling names.member upward.more has.object
      names.names off first (subst (λ (serial : ℕ). object_at state serial ≡ Some has.object) has.is has.there)
      declares names.declared.there own_name names.calls names.constant class_is declared upward.is (eq-eqb class class refl))
