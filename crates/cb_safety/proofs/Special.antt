-- A typed state advances at an invokespecial of a method with code that is no constructor.
use Rattle.std.proofs.Common.{◌≡◌, ◌∙◌, ap, refl, sym, subst, arith, ℕ, suc, Bool, true, false, List, [], ◌∷◌, ◌++◌, map, reverse, Option, Some, None, option_and_then, option_map, if◌then◌else◌}
use Rattle.std.specs.Prelude.{codes}
use Rattle.std.proofs.lemmas.List.{reverse-reverse}
use Rattle.std.proofs.lemmas.Option.{option_and_then_some, same_Some}
use Rattle.cb_classfile.specs.declared.body.Body.{Body}
use Rattle.cb_classfile.specs.declared.method.Method.{Method}
use Rattle.cb_classfile.specs.Pool.{text_at}
use Rattle.cb_hierarchy.specs.Classes.{listed, superclass}
use Rattle.cb_hierarchy.specs.Resolution.{most_specific}
use Rattle.cb_hierarchy.specs.Selection.{found, found_among}
use Rattle.cb_hierarchy.specs.declared.selected.Selected.TheVariants as chosen
use Rattle.cb_insn.specs.declared.insn.Insn.{Insn}
use Rattle.cb_kinds.specs.Texts.{same_text}
use Rattle.cb_kinds.specs.declared.basic.Basic.{Basic}
use Rattle.cb_link.specs.Having.{parameters_at}
use Rattle.cb_link.specs.Named.{code_at, insn_in}
use Rattle.cb_link.specs.Numbers.{Numbered, class_number, hierarchy, or_none, ranked_methods}
use Rattle.cb_link.specs.Program.{Linked}
use Rattle.cb_link.specs.declared.linked.LinkedMethod.{LinkedMethod}
use Rattle.cb_link.specs.declared.named.Named.TheVariants as meanings
use Rattle.cb_machine.specs.Calling.{asked_sorts, invokes_special}
use Rattle.cb_machine.specs.Entering.{entered_upon}
use Rattle.cb_machine.specs.Machine.{Machine, class_declaring, method_numbered}
use Rattle.cb_machine.specs.Sites.{null_pointer}
use Rattle.cb_machine.specs.Standing.{Now, named_here, taken, with_stack}
use Rattle.cb_machine.specs.Steps.{done}
use Rattle.cb_machine.specs.Throwing.{throws}
use Rattle.cb_machine.specs.Values.{sort_of_basic}
use Rattle.cb_plain.specs.State.{Frame, MethodFrame, Object as StateObject, OfMethod, State}
use Rattle.cb_plain.specs.Updates.{object_at}
use Rattle.cb_plain.specs.declared.value.Value.{Value}
use Rattle.cb_plain.specs.declared.value.Value.TheVariants as values
use Rattle.cb_shapes.specs.Shapes.{action_of}
use Rattle.cb_shapes.specs.declared.action.Action.TheVariants as actions
use Rattle.cb_shapes.specs.declared.sort.Sort.{Sort}
use Rattle.cb_shapes.specs.declared.sort.Sort.TheVariants as sorts
use Rattle.cb_text.specs.Naming.{MemberNames, member_at as member_named}
use Rattle.cb_verify.specs.declared.verification_type.VerificationType.{VerificationType}
use Rattle.cb_verify.specs.declared.verification_type.VerificationType.TheVariants.{Object}
use Rattle.cb_verify.specs.Calls.{call_on, call_special, exchanged, is_callable, on_object, popped}
use Rattle.cb_verify.specs.Expansion.{start_types, this_types}
use Rattle.cb_verify.specs.Frames as verified
use Rattle.cb_verify.specs.Leaving.{construct}
use Rattle.cb_verify.specs.Members.{Member, given_types, member_at, taken_types}
use Rattle.cb_verify.specs.Typed.{IsTyped}
use Rattle.cb_verify.specs.Types.{kind_goes_to, type_of}
use Rattle.cb_verify.specs.Within.{Within, holder, name_at}
use Rattle.cb_safety.specs.Advancing.{Advances, HoldsOn, IsSpelled}
use Rattle.cb_safety.specs.Beginning.{HasCode}
use Rattle.cb_safety.specs.Calling.{CallsSpecial, RunsSpecial, is_proper_superclass, is_upwards, run_from, signature_of}
use Rattle.cb_safety.specs.Frames.{result_at, result_types}
use Rattle.cb_safety.specs.Held.{HasType, HaveTypes}
use Rattle.cb_safety.specs.Kinds.{IsOfKind, Kinds, Refers, kinds_of}
use Rattle.cb_safety.specs.States.{IsTypedState}
use Rattle.cb_safety.specs.Throwing.{AreThrown}
use Rattle.cb_safety.proofs.Assigned.{of_kind_assigned, when}
use Rattle.cb_safety.proofs.Beginning.{method_begins}
use Rattle.cb_safety.proofs.Called.{Call, Exchanged, HasParts, call_of, enters, exchanged_by, falls_by, given_is, has_parts, leaves_by, member_there, sorts_are}
use Rattle.cb_safety.proofs.Entering.{AreTold, basics_elsewhere, basics_told, both_have, is_told, map_reverse}
use Rattle.cb_safety.proofs.Entries.{within_method}
use Rattle.cb_safety.proofs.Going.{Planned, advances_by, now_at, planned_by, running}
use Rattle.cb_safety.proofs.Lists.{all_both}
use Rattle.cb_safety.proofs.Receiving.{HasObject, InFront, IsThis, has_object, object_in_front, this_typed}
use Rattle.cb_safety.proofs.Taken.{Taken, popped_on_typed}
use Rattle.cb_safety.proofs.Throwing.{throws_typed}

-- ---- what the machine does

special_null : (now : Now) (index number : ℕ) (held arguments left : List Value) → named_here now ≡ meanings.Method number
    → taken (asked_sorts now.machine.program number ++ sorts.Reference ∷ []) now.frame.stack ≡ Some (held, left)
    → reverse held ≡ values.Ref 0 ∷ arguments
    → invokes_special now index ≡ Some (throws now.machine now.state null_pointer)
special_null now index number held arguments left names took first = rw (names, took, first) refl

-- where a method runs: one lemma for each way in which it is found
module _ (now : Now) (index number callee place class own_class : ℕ) (held arguments left : List Value) (numbered own ran : Numbered Method) (member : MemberNames)
    (object : StateObject) (body : Body)
    (names : named_here now ≡ meanings.Method number)
    (took : taken (asked_sorts now.machine.program number ++ sorts.Reference ∷ []) now.frame.stack ≡ Some (held, left))
    (first : reverse held ≡ values.Ref (suc place) ∷ arguments)
    (there : object_at now.state (suc place) ≡ Some object)
    (declares : class_declaring now.machine.program now.frame.method ≡ Some own_class)
    (numbered_is : method_numbered now.machine.program number ≡ Some numbered)
    (init : same_text (or_none (text_at numbered.pool numbered.member.name)) (codes "<init>") ≡ false)
    (own_is : method_numbered now.machine.program now.frame.method ≡ Some own)
    (member_is : member_named own.pool index ≡ Some member)
    (class_is : class_number now.machine.program.classes member.class ≡ Some class)
    (ran_is : method_numbered now.machine.program callee ≡ Some ran)
    (has : ran.member.body ≡ Some body) where
  from_superclass : (above signature : ℕ) → is_proper_superclass now.machine.program own_class class ≡ true
      → superclass (hierarchy now.machine.program.classes) own_class ≡ above ∷ [] → signature_of now.machine.program number ≡ Some signature
      → run_from now.machine.program above signature ≡ chosen.Method callee
      → invokes_special now index ≡ Some (entered_upon now.machine now.state (OfMethod (with_stack now.frame left) ∷ now.below) callee (values.Ref (suc place) ∷ arguments) body)
  from_superclass above signature proper up signed runs =
      rw (names, took, first, there, declares, numbered_is, init, own_is, member_is, class_is, proper, up, signed, runs, ran_is, has) refl

  as_resolved : (declaring : ℕ) → is_proper_superclass now.machine.program own_class class ≡ false → class_declaring now.machine.program number ≡ Some declaring
      → is_upwards now.machine.program class declaring ≡ true → found (ranked_methods now.machine.program.classes) number ≡ chosen.Method callee
      → invokes_special now index ≡ Some (entered_upon now.machine now.state (OfMethod (with_stack now.frame left) ∷ now.below) callee (values.Ref (suc place) ∷ arguments) body)
  as_resolved declaring proper declared up runs =
      rw (names, took, first, there, declares, numbered_is, init, own_is, member_is, class_is, proper, declared, up, runs, ran_is, has) refl

  of_interfaces : (declaring signature : ℕ) → is_proper_superclass now.machine.program own_class class ≡ false → class_declaring now.machine.program number ≡ Some declaring
      → is_upwards now.machine.program class declaring ≡ false → signature_of now.machine.program number ≡ Some signature
      → found_among (most_specific (hierarchy now.machine.program.classes) (ranked_methods now.machine.program.classes) class signature) ≡ chosen.Method callee
      → invokes_special now index ≡ Some (entered_upon now.machine now.state (OfMethod (with_stack now.frame left) ∷ now.below) callee (values.Ref (suc place) ∷ arguments) body)
  of_interfaces declaring signature proper declared up signed runs =
      rw (names, took, first, there, declares, numbered_is, init, own_is, member_is, class_is, proper, declared, up, signed, runs, ran_is, has) refl

  pub special_runs : RunsSpecial now.machine.program own_class class number callee
      → invokes_special now index ≡ Some (entered_upon now.machine now.state (OfMethod (with_stack now.frame left) ∷ now.below) callee (values.Ref (suc place) ∷ arguments) body)
  special_runs (RunsSpecial.FromSuperclass above signature proper up signed runs) = from_superclass above signature proper up signed runs
  special_runs (RunsSpecial.AsResolved declaring proper declared up runs) = as_resolved declaring proper declared up runs
  special_runs (RunsSpecial.OfSuperinterfaces declaring signature proper declared up signed runs) = of_interfaces declaring signature proper declared up signed runs

-- ---- what the verifier's rule says

pub special_by : (method : Within) (index : ℕ) (member : Member) (frame after : verified.Frame) → call_special method index member frame ≡ Some after
    → Exchanged method frame after (given_types member) (on_object (taken_types member) method.class)
special_by method index member frame after so =
    option_and_then_some (λ (kind : ℕ). if kind_goes_to method.program method.class kind then above kind else None) (holder method index) after so
    (λ kind there rule.
    option_and_then_some (λ (rest : List VerificationType). call_on method index member frame method.class) (popped method.program (on_object (taken_types member) kind) frame.stack) after
    (when (kind_goes_to method.program method.class kind) (above kind) after rule).1
    (λ rest off called. exchanged_by method frame after (given_types member) (on_object (taken_types member) method.class)
    (when (is_callable (name_at method index)) (exchanged method frame (given_types member) (on_object (taken_types member) method.class)) after called).1))
  where
    above : ℕ → Option verified.Frame
    above kind = option_and_then (λ (rest : List VerificationType). call_on method index member frame method.class) (popped method.program (on_object (taken_types member) kind) frame.stack)

-- ---- an object or null

pub data NullOr (program : Linked) (kinds : Kinds) (kind : ℕ) (value : Value) : Type 0 where
  Null : value ≡ values.Ref 0 → NullOr program kinds kind value
  To : (serial : ℕ) → value ≡ values.Ref serial → IsOfKind program kinds kind serial → NullOr program kinds kind value

refers_as : (program : Linked) (kinds : Kinds) (kind serial : ℕ) → Refers program kinds kind serial → NullOr program kinds kind (values.Ref serial)
refers_as program kinds kind serial Refers.ToNull = NullOr.Null refl
refers_as program kinds kind serial (Refers.To own is) = NullOr.To own refl is

pub object_as : (method : Within) (kinds : Kinds) (type : VerificationType) (kind : ℕ) (value : Value) → type ≡ Object kind → HasType method kinds type value
    → NullOr method.program kinds kind value
object_as method kinds type kind value same (HasType.AReference own serial refers) =
    let is : own ≡ kind = cc in refers_as method.program kinds kind serial (subst (λ (kind : ℕ). Refers method.program kinds kind serial) is refers)
object_as method kinds type kind value same has = absurd (cc same)

-- ---- a call

module _ (machine : Machine) (state : State) (frame : MethodFrame) (below : List Frame) (insn : Insn) (index : ℕ) (callee : Within)
    (fits : IsTyped machine.program) (spelled : IsSpelled machine.program) (coded : HasCode machine.program) (thrown : AreThrown machine.program)
    (call : Call machine state frame below insn (actions.InvokeSpecial index)) (calls : CallsSpecial machine.program frame.method frame.pc index call.at.method callee) where
  abbrev kinds : Kinds
  kinds = kinds_of state.objects

  abbrev here : Now
  here = now_at machine state frame below

  abbrev number : ℕ
  number = callee.number

  abbrev method : Within
  method = call.at.method

  abbrev wanted : List Basic
  wanted = calls.linked.parameters

  parts : HasParts machine.program number callee
  parts = has_parts machine.program number callee calls.within

  caller : HasParts machine.program frame.method method
  caller = has_parts machine.program frame.method method call.at.within

  by_rule : Exchanged method call.at.types call.after (map type_of (listed calls.linked.result)) (on_object (map type_of (reverse wanted)) method.class)
  by_rule =
      subst (λ (member : Member). Exchanged method call.at.types call.after (given_types member) (on_object (taken_types member) method.class))
      (member_there machine.program frame.method frame.pc calls.resolved method calls.linked call.at.within calls.named calls.is_linked)
      (special_by method index (member_at method frame.pc) call.at.types call.after
      (sym (ap (λ (test : Bool). if test then construct method index (member_at method frame.pc) call.at.types else call_special method index (member_at method frame.pc) call.at.types)
      calls.names_no_constructor) ∙ leaves_by machine state frame below insn (actions.InvokeSpecial index) call))

  chain : HoldsOn method.program
  chain = subst HoldsOn (sym call.own) call.holds

  took : Taken method kinds (map sort_of_basic (reverse wanted) ++ sorts.Reference ∷ []) frame.stack (on_object (map type_of (reverse wanted)) method.class) by_rule.rest
  took = popped_on_typed method chain kinds (reverse wanted) method.class call.at.types.stack frame.stack by_rule.rest call.stack by_rule.off

  off : taken (asked_sorts machine.program calls.resolved ++ sorts.Reference ∷ []) frame.stack ≡ Some (took.values, took.left)
  off = ap (λ (asked : List Sort). taken (asked ++ sorts.Reference ∷ []) frame.stack) (sorts_are machine.program calls.resolved calls.linked calls.is_linked) ∙ took.taken

  front : InFront method kinds (Object method.class) (reverse (map type_of (reverse wanted))) (reverse took.values)
  front = object_in_front method kinds (Object method.class) (map type_of (reverse wanted)) took.values took.held

  own : callee.program ≡ machine.program
  own = (within_method machine.program number callee calls.within).own

  others : HaveTypes callee kinds (map type_of wanted) front.arguments
  others =
      basics_elsewhere method callee kinds wanted front.arguments (call.own ∙ sym own)
      (subst (λ (types : List VerificationType). HaveTypes method kinds types front.arguments)
      (sym (map_reverse type_of (reverse wanted)) ∙ ap (map type_of) (reverse-reverse wanted)) front.have)

  starts : start_types callee ≡ this_types callee ++ map type_of wanted
  starts =
      ap (λ (program : Linked). this_types callee ++ map type_of (parameters_at program number)) own
      ∙ ap (λ (own : List Basic). this_types callee ++ map type_of own) calls.takes

  gives : call.after.stack ≡ result_types (result_at machine.program number) ++ by_rule.rest
  gives =
      by_rule.stack
      ∙ ap (λ (types : List VerificationType). types ++ by_rule.rest) (given_is calls.linked.result ∙ ap result_types (sym calls.gives))

  -- on an object
  entered : (place : ℕ) → IsOfKind callee.program kinds callee.class (suc place)
      → Planned machine.program (Some (entered_upon machine state (OfMethod (with_stack frame took.left) ∷ below) number (values.Ref (suc place) ∷ front.arguments) callee.body))
  entered place of =
      let this : IsThis callee kinds (suc place) = this_typed callee kinds (suc place) calls.is_of_object of in
      enters machine state frame below insn (actions.InvokeSpecial index) call took.left (values.Ref (suc place) ∷ front.arguments) by_rule.rest number callee thrown calls.within
      (method_begins machine.program number callee fits spelled coded calls.within)
      (subst (λ (types : List VerificationType). HaveTypes callee kinds types (values.Ref (suc place) ∷ front.arguments)) (sym starts)
      (both_have callee kinds (this_types callee) (map type_of wanted) (values.Ref (suc place) ∷ []) front.arguments this.have others))
      (subst AreTold (sym starts) (all_both (λ (type : VerificationType). is_told type ≡ true) (this_types callee) (map type_of wanted) this.told (basics_told wanted)))
      (falls_by insn (actions.InvokeSpecial index) call.acts refl) gives
      (subst (λ (types : List VerificationType). HaveTypes method kinds types frame.locals) (sym by_rule.locals) call.locals) took.below

  runs_on : (serial : ℕ) → front.value ≡ values.Ref serial → IsOfKind method.program kinds method.class serial → Planned machine.program (invokes_special here index)
  runs_on serial same of =
      option_and_then_some (λ (member : MemberNames). class_number machine.program.classes member.class) (member_named caller.numbered.pool index) calls.class
      (sym (ap (option_and_then (λ (own : Numbered Method). option_and_then (λ (member : MemberNames). class_number machine.program.classes member.class) (member_named own.pool index)))
      caller.is_numbered) ∙ calls.names_class) by
    where
      rises : IsOfKind callee.program kinds callee.class serial
      rises =
          subst (λ (program : Linked). IsOfKind program kinds callee.class serial) (sym own)
          (of_kind_assigned machine.program call.holds kinds method.class callee.class serial calls.rises
          (subst (λ (program : Linked). IsOfKind program kinds method.class serial) call.own of))

      has : HasObject state.objects serial of.own
      has = has_object state.objects serial of.own of.there

      by : (member : MemberNames) → member_named caller.numbered.pool index ≡ Some member → class_number machine.program.classes member.class ≡ Some calls.class
          → Planned machine.program (invokes_special here index)
      by member there class_is =
          planned_by machine.program (invokes_special here index)
          (Some (entered_upon machine state (OfMethod (with_stack frame took.left) ∷ below) number (values.Ref (suc has.place) ∷ front.arguments) callee.body))
          (special_runs here index calls.resolved number has.place calls.class method.class took.values front.arguments took.left calls.numbered caller.numbered parts.numbered member
          has.object callee.body calls.named off
          (front.is ∙ ap (λ (value : Value). value ∷ front.arguments) (same ∙ ap values.Ref has.is))
          (subst (λ (serial : ℕ). object_at state serial ≡ Some has.object) has.is has.there)
          (ap (option_map (λ (own : LinkedMethod). own.class)) caller.is_linked ∙ ap {B = Option ℕ} Some caller.class)
          calls.is_numbered calls.is_no_constructor caller.is_numbered there class_is parts.is_numbered parts.body calls.runs)
          (entered has.place (subst (λ (serial : ℕ). IsOfKind callee.program kinds callee.class serial) has.is rises))

  pub special_advances : Planned machine.program (invokes_special here index)
  special_advances = go (object_as method kinds (Object method.class) method.class front.value refl front.has) where
    go : NullOr method.program kinds method.class front.value → Planned machine.program (invokes_special here index)
    go (NullOr.Null same) =
        planned_by machine.program (invokes_special here index) (Some (throws machine state null_pointer))
        (special_null here index calls.resolved took.values front.arguments took.left calls.named off (front.is ∙ ap (λ (value : Value). value ∷ front.arguments) same))
        (record {
          plan = throws machine state null_pointer;
          is = refl;
          typed = throws_typed machine state null_pointer call.typed (thrown null_pointer (0, omega arith, refl));
        })
    go (NullOr.To serial same of) = runs_on serial same of

-- ---- the state

pub special_calls_advance : (machine : Machine) (state : State) (frame : MethodFrame) (below : List Frame) (insn : Insn) (index : ℕ) (from callee : Within)
    → IsTyped machine.program → IsSpelled machine.program → HoldsOn machine.program → HasCode machine.program → AreThrown machine.program
    → IsTypedState machine.program state → state.exit ≡ None → state.roots.pending ≡ 0 → state.roots.frames ≡ OfMethod frame ∷ below
    → insn_in (code_at machine.program frame.method) frame.pc ≡ Some insn → action_of insn ≡ Some (actions.InvokeSpecial index)
    → CallsSpecial machine.program frame.method frame.pc index from callee → Advances machine state
special_calls_advance machine state frame below insn index from callee fits spelled holds coded thrown typed none runs frames there so calls =
    advances_by machine state (done (now_at machine state frame below) insn.operand (actions.InvokeSpecial index))
    (running machine state frame below insn (actions.InvokeSpecial index) none runs frames there so)
    (special_advances machine state frame below insn index callee fits spelled coded thrown call
    (subst (λ (own : Within). CallsSpecial machine.program frame.method frame.pc index own callee)
    (same_Some from call.at.method (sym calls.from_within ∙ call.at.within)) calls))
  where
    call : Call machine state frame below insn (actions.InvokeSpecial index)
    call = call_of machine state frame below insn (actions.InvokeSpecial index) fits spelled holds typed runs frames there so
