-- A typed state advances where a method is called on an object that isn't being made.
use Rattle.std.proofs.Common.{◌≡◌, ◌∙◌, ap, refl, sym, subst, arith, ℕ, suc, Bool, true, List, [], ◌∷◌, ◌++◌, length, map, reverse, Option, Some, slice_get}
use Rattle.std.proofs.lemmas.List.{reverse-reverse}
use Rattle.cb_classfile.specs.declared.method.Method.{Method}
use Rattle.cb_hierarchy.specs.Classes.{listed}
use Rattle.cb_hierarchy.specs.declared.selected.Selected.{Selected}
use Rattle.cb_hierarchy.specs.declared.selected.Selected.TheVariants as chosen
use Rattle.cb_insn.specs.declared.insn.Insn.{Insn}
use Rattle.cb_kinds.specs.declared.basic.Basic.{Basic}
use Rattle.cb_link.specs.Having.{parameters_at}
use Rattle.cb_link.specs.Numbers.{Numbered, methods_of}
use Rattle.cb_link.specs.Program.{Linked, linked_method}
use Rattle.cb_machine.specs.Calling.{asked_sorts}
use Rattle.cb_machine.specs.Machine.{Machine}
use Rattle.cb_machine.specs.Plans.{Plan}
use Rattle.cb_machine.specs.Sites.{null_pointer}
use Rattle.cb_machine.specs.Standing.{Now, taken}
use Rattle.cb_machine.specs.Steps.{plan}
use Rattle.cb_machine.specs.Throwing.{throws}
use Rattle.cb_machine.specs.Values.{sort_of_basic}
use Rattle.cb_plain.specs.State.{Frame, MethodFrame, Object as StateObject, State}
use Rattle.cb_plain.specs.Updates.{object_at}
use Rattle.cb_plain.specs.declared.value.Value.{Value}
use Rattle.cb_plain.specs.declared.value.Value.TheVariants as values
use Rattle.cb_shapes.specs.declared.action.Action.{Action}
use Rattle.cb_shapes.specs.declared.sort.Sort.{Sort}
use Rattle.cb_shapes.specs.declared.sort.Sort.TheVariants as sorts
use Rattle.cb_verify.specs.declared.verification_type.VerificationType.{VerificationType}
use Rattle.cb_verify.specs.declared.verification_type.VerificationType.TheVariants.{Object}
use Rattle.cb_verify.specs.Calls.{on_object}
use Rattle.cb_verify.specs.Typed.{IsTyped, falls}
use Rattle.cb_verify.specs.Types.{type_of}
use Rattle.cb_verify.specs.Within.{Within}
use Rattle.cb_safety.specs.Advancing.{Advances, HoldsOn}
use Rattle.cb_safety.specs.Frames.{result_types}
use Rattle.cb_safety.specs.Held.{HaveTypes}
use Rattle.cb_safety.specs.Kinds.{IsOfKind, Kinds, holds_kind, kind_in, kinds_of}
use Rattle.cb_safety.specs.Natives.{CallsNative}
use Rattle.cb_safety.proofs.Called.{Call, Exchanged, given_is, parameters_there, sorts_are}
use Rattle.cb_safety.proofs.Entering.{map_reverse}
use Rattle.cb_safety.proofs.Going.{advances_by, now_at}
use Rattle.cb_safety.proofs.Links.{Links}
use Rattle.cb_safety.proofs.Receiving.{HasObject, InFront, OnObject, has_object, in_order, object_in_front, own_kind, same_serial}
use Rattle.cb_safety.proofs.Runs.{Given, IsReceiver, MayRun, Takes, by_method, linked_there, selected_advances}
use Rattle.cb_safety.proofs.Special.{NullOr, object_as}
use Rattle.cb_safety.proofs.Suited.{Suits}
use Rattle.cb_safety.proofs.Taken.{Taken, popped_on_typed}
use Rattle.cb_safety.proofs.Throwing.{throws_typed}

module _ (machine : Machine) (state : State) (frame : MethodFrame) (below : List Frame) (insn : Insn) (action : Action) (linked : Links machine.program)
    (call : Call machine state frame below insn action) (resolved kind : ℕ) (own : Numbered Method) (there : slice_get (methods_of machine.program.classes) resolved ≡ Some own)
    (by_rule : Exchanged call.at.method call.at.types call.after (map type_of (listed (linked_method machine.program.kinds own).result))
    (on_object (map type_of (reverse (linked_method machine.program.kinds own).parameters)) kind)) where
  abbrev kinds : Kinds
  kinds = kinds_of state.objects

  abbrev here : Now
  here = now_at machine state frame below

  abbrev method : Within
  method = call.at.method

  abbrev wanted : List Basic
  wanted = (linked_method machine.program.kinds own).parameters

  took : Taken method kinds (map sort_of_basic (reverse wanted) ++ sorts.Reference ∷ []) frame.stack (on_object (map type_of (reverse wanted)) kind) by_rule.rest
  took = popped_on_typed method (subst HoldsOn (sym call.own) call.holds) kinds (reverse wanted) kind call.at.types.stack frame.stack by_rule.rest call.stack by_rule.off

  off : taken (asked_sorts machine.program resolved ++ sorts.Reference ∷ []) frame.stack ≡ Some (took.values, took.left)
  off =
      ap (λ (asked : List Sort). taken (asked ++ sorts.Reference ∷ []) frame.stack)
      (sorts_are machine.program resolved (linked_method machine.program.kinds own) (linked_there machine.program linked.whole resolved own there)) ∙ took.taken

  front : InFront method kinds (Object kind) (reverse (map type_of (reverse wanted))) (reverse took.values)
  front = object_in_front method kinds (Object kind) (map type_of (reverse wanted)) took.values took.held

  others : HaveTypes method kinds (map type_of wanted) front.arguments
  others =
      subst (λ (types : List VerificationType). HaveTypes method kinds types front.arguments)
      (sym (map_reverse type_of (reverse wanted)) ∙ ap (map type_of) (reverse-reverse wanted)) front.have

  -- what a method that is selected on an object is given
  given_front : (place number object : ℕ) → kind_in kinds (suc place) ≡ Some object → (suit : Suits machine.program linked resolved own there object number)
      → Given machine.program kinds method suit.run (values.Ref (suc place) ∷ front.arguments)
  given_front place number object is suit = record {
    receiver = values.Ref (suc place) ∷ [];
    others = front.arguments;
    are = refl;
    on = subst (λ (static : Bool). IsReceiver machine.program kinds suit.run.class static (values.Ref (suc place) ∷ [])) (sym suit.of_objects)
        (IsReceiver.AnObject (suc place) (record { own = object; there = is; goes = suit.holds }));
    have = subst (λ (wanted : List Basic). HaveTypes method kinds (map type_of wanted) front.arguments) (sym suit.parameters) others;
  }

  -- so the arguments that stand on the stack are what it takes
  pub object_takes : (number : ℕ) (arguments : List Value) (on : OnObject state frame (length (parameters_at machine.program resolved)) arguments)
      → (holds_kind machine.program on.object.kind kind ≡ true → Suits machine.program linked resolved own there on.object.kind number)
      → Takes machine.program kinds method number arguments
  object_takes number arguments on suits = go (object_as method kinds (Object kind) kind front.value refl front.has) where
    same : reverse took.values ≡ arguments
    same =
        in_order method kinds state frame wanted (on_object (map type_of (reverse wanted)) kind) by_rule.rest took (length (parameters_at machine.program resolved)) arguments
        (ap (λ (own : List Basic). length own)
        (parameters_there machine.program resolved (linked_method machine.program.kinds own) (linked_there machine.program linked.whole resolved own there))) on

    are : values.Ref (suc on.place) ∷ on.others ≡ front.value ∷ front.arguments
    are = sym on.are ∙ sym same ∙ front.is

    go : NullOr method.program kinds kind front.value → Takes machine.program kinds method number arguments
    go (NullOr.Null null) =
        let wrong : suc on.place ≡ 0 = same_serial (suc on.place) 0 front.value on.others front.arguments are null in
        absurd (omega (arith, wrong))
    go (NullOr.To serial is of) =
        let at : suc on.place ≡ serial = same_serial (suc on.place) serial front.value on.others front.arguments are is in
        let held : kind_in kinds (suc on.place) ≡ Some of.own = subst (λ (serial : ℕ). kind_in kinds serial ≡ Some of.own) (sym at) of.there in
        let its : of.own ≡ on.object.kind = own_kind state.objects (suc on.place) of.own on.object held on.there in
        let suit : Suits machine.program linked resolved own there on.object.kind number =
        suits (subst (λ (own : ℕ). holds_kind machine.program own kind ≡ true) its (subst (λ (program : Linked). holds_kind program of.own kind ≡ true) call.own of.goes)) in
        let whole : values.Ref (suc on.place) ∷ front.arguments ≡ arguments =
        ap (λ (value : Value). value ∷ front.arguments) (ap values.Ref at ∙ sym is) ∙ sym front.is ∙ same in
        record {
          own = suit.run;
          there = suit.is;
          given = subst (Given machine.program kinds method suit.run) whole (given_front on.place number on.object.kind (held ∙ ap {B = Option ℕ} Some its) suit);
        }

  -- what the machine does with null and with an object
  pub record Calls (choose : ℕ → Selected) : Type 0 where
    pub found : Option Plan
    pub does : plan machine state ≡ found
    pub on_null : (held arguments left : List Value) → taken (asked_sorts machine.program resolved ++ sorts.Reference ∷ []) frame.stack ≡ Some (held, left)
        → reverse held ≡ values.Ref 0 ∷ arguments → found ≡ Some (throws machine state null_pointer)
    pub on_one : (place : ℕ) (object : StateObject) (held arguments left : List Value)
        → taken (asked_sorts machine.program resolved ++ sorts.Reference ∷ []) frame.stack ≡ Some (held, left)
        → reverse held ≡ values.Ref (suc place) ∷ arguments → object_at state (suc place) ≡ Some object
        → found ≡ by_method (now_at machine state frame below) (values.Ref (suc place) ∷ arguments) left (choose object.kind)

  module _ (fits : IsTyped machine.program) (natives : CallsNative machine state frame below → Advances machine state) (falling : falls insn ≡ true)
      (choose : ℕ → Selected) (calls : Calls choose)
      (suits : (object number : ℕ) → holds_kind machine.program object kind ≡ true → choose object ≡ chosen.Method number → Suits machine.program linked resolved own there object number) where
    may_run : (place number object : ℕ) → kind_in kinds (suc place) ≡ Some object → Suits machine.program linked resolved own there object number
        → MayRun machine state frame below insn action call number (values.Ref (suc place) ∷ front.arguments) took.left
    may_run place number object is suit = record {
      own = suit.run;
      there = suit.is;
      given = given_front place number object is suit;
      ready = record {
        rest = by_rule.rest;
        falls = falling;
        answered = by_rule.stack ∙ ap (λ (types : List VerificationType). types ++ by_rule.rest) (given_is (linked_method machine.program.kinds own).result)
            ∙ ap (λ (result : Option Basic). result_types result ++ by_rule.rest) (sym suit.result);
        locals = subst (λ (types : List VerificationType). HaveTypes method kinds types frame.locals) (sym by_rule.locals) call.locals;
        stack = took.below;
      };
    }

    on_object_advances : (serial : ℕ) → front.value ≡ values.Ref serial → IsOfKind method.program kinds kind serial → Advances machine state
    on_object_advances serial same of =
        selected_advances machine state frame below insn action call fits linked.spelled linked.coded linked.whole linked.thrown natives (choose has.object.kind)
        (values.Ref (suc has.place) ∷ front.arguments) took.left
        (λ number is. may_run has.place number of.own (subst (λ (serial : ℕ). kind_in kinds serial ≡ Some of.own) has.is of.there)
        (suits of.own number (subst (λ (program : Linked). holds_kind program of.own kind ≡ true) call.own of.goes) (ap choose (sym has.of) ∙ is)))
        (calls.does
        ∙ calls.on_one has.place has.object took.values front.arguments took.left off (front.is ∙ ap (λ (value : Value). value ∷ front.arguments) (same ∙ ap values.Ref has.is))
        (subst (λ (serial : ℕ). object_at state serial ≡ Some has.object) has.is has.there))
      where
        has : HasObject state.objects serial of.own
        has = has_object state.objects serial of.own of.there

    pub object_advances : Advances machine state
    object_advances = go (object_as method kinds (Object kind) kind front.value refl front.has) where
      go : NullOr method.program kinds kind front.value → Advances machine state
      go (NullOr.Null same) =
          advances_by machine state (Some (throws machine state null_pointer))
          (calls.does ∙ calls.on_null took.values front.arguments took.left off (front.is ∙ ap (λ (value : Value). value ∷ front.arguments) same))
          (record {
            plan = throws machine state null_pointer;
            is = refl;
            typed = throws_typed machine state null_pointer call.typed (linked.thrown null_pointer (0, omega arith, refl));
          })
      go (NullOr.To serial same of) = on_object_advances serial same of
