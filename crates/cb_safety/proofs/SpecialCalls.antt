-- A typed state advances at an invokespecial of no constructor, in a linked program.
use Rattle.std.proofs.Common.{◌≡◌, ◌∙◌, ap, arith, refl, sym, subst, ℕ, zero, suc, ◌<◌, ◌==◌, Bool, true, false, cond, not, ◌&&◌, List, [], ◌∷◌, ◌++◌, length, map, nat_lt, reverse, Option, Some, None, option_and_then, option_map, slice_get, if◌then◌else◌}
use Rattle.std.specs.Prelude.{codes, drop}
use Rattle.std.specs.List.{Contains, list_any}
use Rattle.std.proofs.lemmas.Bool.{and_parts, eqb-true, false≢true}
use Rattle.std.proofs.lemmas.List.{length-map}
use Rattle.std.proofs.lemmas.List.Elements.{Contains-append_left}
use Rattle.std.proofs.lemmas.Option.{option_and_then_some, same_Some}
use Rattle.cb_classfile.specs.Class.{IsWellFormed}
use Rattle.cb_classfile.specs.declared.method.Method.{Method}
use Rattle.cb_classfile.specs.Pool.{text_at}
use Rattle.cb_hierarchy.specs.declared.class.Class.{Class as Ranked}
use Rattle.cb_hierarchy.specs.declared.member.Method.{Method as RankedMethod}
use Rattle.cb_hierarchy.specs.declared.selected.Selected.{Selected}
use Rattle.cb_hierarchy.specs.declared.selected.Selected.TheVariants as chosen
use Rattle.cb_hierarchy.specs.Classes.{listed, parents, superclass, superinterfaces}
use Rattle.cb_hierarchy.specs.Orders.{in_turns, upwards_by}
use Rattle.cb_hierarchy.specs.Resolution.{most_specific}
use Rattle.cb_hierarchy.specs.Selection.{found, found_among}
use Rattle.cb_insn.specs.declared.insn.Insn.{Insn}
use Rattle.cb_insn.specs.declared.opcode.TheConstants as opcodes
use Rattle.cb_kinds.proofs.Laws.{text_at as text_numbered}
use Rattle.cb_kinds.specs.Kinds.{is_array, type_of_name}
use Rattle.cb_kinds.specs.Texts.{number_of, same_text}
use Rattle.cb_link.specs.Having.{parameters_at}
use Rattle.cb_link.specs.Numbers.{Numbered, class_number, hierarchy, methods_of, name_of, or_none, ranked, ranked_method, ranked_methods}
use Rattle.cb_link.specs.Program.{Linked, linked_method}
use Rattle.cb_link.specs.Resolving.{found_method, object}
use Rattle.cb_link.specs.Special.{holder_named, special}
use Rattle.cb_link.specs.Subtypes.{assignable, is_assignable, is_subtype, type_of_kind}
use Rattle.cb_link.specs.declared.linked.LinkedMethod.{LinkedMethod}
use Rattle.cb_link.specs.declared.named.Named.TheVariants as meanings
use Rattle.cb_machine.specs.Calling.{asked_sorts, invokes_special}
use Rattle.cb_machine.specs.Machine.{Machine, class_declaring, method_numbered}
use Rattle.cb_machine.specs.Sites.{null_pointer}
use Rattle.cb_machine.specs.Standing.{Now, named_here, taken}
use Rattle.cb_machine.specs.Steps.{plan}
use Rattle.cb_machine.specs.Throwing.{throws}
use Rattle.cb_names.specs.Signs.{bracket, letter_class, semicolon}
use Rattle.cb_plain.specs.State.{Frame, MethodFrame, Object as StateObject, State}
use Rattle.cb_plain.specs.Updates.{object_at}
use Rattle.cb_plain.specs.declared.value.Value.{Value}
use Rattle.cb_plain.specs.declared.value.Value.TheVariants as values
use Rattle.cb_shapes.specs.declared.action.Action.TheVariants as actions
use Rattle.cb_shapes.specs.declared.sort.Sort.TheVariants as sorts
use Rattle.cb_text.specs.Naming.{MemberNames, member_at as member_named}
use Rattle.cb_verify.specs.declared.verification_type.VerificationType.{VerificationType}
use Rattle.cb_verify.specs.Calls.{call_on, call_special, on_object, popped}
use Rattle.cb_verify.specs.Frames as verified
use Rattle.cb_verify.specs.Leaving.{construct}
use Rattle.cb_verify.specs.Members.{Member, given_types, member_at, taken_types}
use Rattle.cb_verify.specs.Typed.{IsTyped}
use Rattle.cb_verify.specs.Types.{kind_goes_to, type_of}
use Rattle.cb_verify.specs.Within.{Within, holder, is_init, name_at}
use Rattle.cb_safety.specs.Advancing.{Advances}
use Rattle.cb_safety.specs.Calling.{is_proper_superclass, is_upwards, run_from, signature_of}
use Rattle.cb_safety.specs.Kinds.{holds_kind, kinds_of}
use Rattle.cb_safety.specs.Natives.{CallsNative}
use Rattle.cb_safety.proofs.Assigned.{when}
use Rattle.cb_safety.proofs.CallNames.{NamesMethod}
use Rattle.cb_safety.proofs.Called.{Call, Exchanged, HasParts, class_low, falls_by, has_parts, leaves_by, member_there}
use Rattle.cb_safety.proofs.Chosen.{among_chosen, found_is, from_chosen, stands_under}
use Rattle.cb_safety.proofs.Going.{now_at}
use Rattle.cb_safety.proofs.Links.{Links}
use Rattle.cb_safety.proofs.ObjectCalls.{object_advances, object_takes}
use Rattle.cb_safety.proofs.Ordered.{named_low, number_within}
use Rattle.cb_safety.proofs.Receiving.{OnObject}
use Rattle.cb_safety.proofs.Runs.{Takes, by_method, is_static_method, linked_there}
use Rattle.cb_safety.proofs.Signed.{FoundIn, class_there, found_in, found_texts, kind_numbered}
use Rattle.cb_safety.proofs.Special.{special_by}
use Rattle.cb_safety.proofs.Subclasses.{subclass_next, subclass_parent}
use Rattle.cb_safety.proofs.Suited.{Selectable, Suits, chosen_suits, declared_low, held_from, no_cycle, own_suits, ranked_there}
use Rattle.cb_safety.proofs.Superclasses.{own_class_name, type_is}
use Rattle.cb_safety.proofs.Lists.{all_at}

-- ---- what the machine does

module _ (now : Now) (number : ℕ) (names : named_here now ≡ meanings.Method number) (index : ℕ) where
  special_null : (held arguments left : List Value) → taken (asked_sorts now.machine.program number ++ sorts.Reference ∷ []) now.frame.stack ≡ Some (held, left)
      → reverse held ≡ values.Ref 0 ∷ arguments → invokes_special now index ≡ Some (throws now.machine now.state null_pointer)
  special_null held arguments left took first = rw (names, took, first) refl

  special_runs : (place : ℕ) (object : StateObject) (held arguments left : List Value)
      → taken (asked_sorts now.machine.program number ++ sorts.Reference ∷ []) now.frame.stack ≡ Some (held, left)
      → reverse held ≡ values.Ref (suc place) ∷ arguments → object_at now.state (suc place) ≡ Some object
      → invokes_special now index ≡ by_method now (values.Ref (suc place) ∷ arguments) left
      (special now.machine.program number (class_declaring now.machine.program now.frame.method)
      (option_and_then (class_number now.machine.program.classes) (holder_named now.machine.program now.frame.method index)))
  special_runs place object held arguments left took first there = rw (names, took, first, there) refl

-- ---- what is selected

module _ (program : Linked) (caller number index class own_class : ℕ) (numbered own : Numbered Method) (member : MemberNames)
    (declares : class_declaring program caller ≡ Some own_class)
    (numbered_is : method_numbered program number ≡ Some numbered)
    (init : same_text (or_none (text_at numbered.pool numbered.member.name)) (codes "<init>") ≡ false)
    (own_is : method_numbered program caller ≡ Some own)
    (member_is : member_named own.pool index ≡ Some member)
    (class_is : class_number program.classes member.class ≡ Some class) where
  abbrev selected_by : Selected
  selected_by = special program number (class_declaring program caller) (option_and_then (class_number program.classes) (holder_named program caller index))

  from_superclass : (above signature : ℕ) (more : List ℕ) → is_proper_superclass program own_class class ≡ true
      → superclass (hierarchy program.classes) own_class ≡ above ∷ more → signature_of program number ≡ Some signature
      → selected_by ≡ run_from program above signature
  from_superclass above signature more proper up signed = rw (declares, numbered_is, init, own_is, member_is, class_is, proper, up, signed) refl

  as_resolved : (declaring : ℕ) → is_proper_superclass program own_class class ≡ false → class_declaring program number ≡ Some declaring
      → is_upwards program class declaring ≡ true → selected_by ≡ found (ranked_methods program.classes) number
  as_resolved declaring proper declared up = rw (declares, numbered_is, init, own_is, member_is, class_is, proper, declared, up) refl

  of_interfaces : (declaring signature : ℕ) → is_proper_superclass program own_class class ≡ false → class_declaring program number ≡ Some declaring
      → is_upwards program class declaring ≡ false → signature_of program number ≡ Some signature
      → selected_by ≡ found_among (most_specific (hierarchy program.classes) (ranked_methods program.classes) class signature)
  of_interfaces declaring signature proper declared up signed =
      rw (declares, numbered_is, init, own_is, member_is, class_is, proper, declared, up, signed) refl

-- ---- a class with a proper superclass has a superclass

none_proper : (classes : List Ranked) (turns class named : ℕ) → superclass classes class ≡ [] → list_any (λ other. other == named) (drop 1 (in_turns (upwards_by classes) turns class)) ≡ false
none_proper classes zero class named none = refl
none_proper classes (suc turns) class named none = rw none refl

-- ---- the class that is named

record SpecialRule (method : Within) (index : ℕ) : Type 0 where
  pub kind : ℕ
  pub holds : holder method index ≡ Some kind
  pub goes : kind_goes_to method.program method.class kind ≡ true

special_rule : (method : Within) (index : ℕ) (member : Member) (frame after : verified.Frame) → call_special method index member frame ≡ Some after → SpecialRule method index
special_rule method index member frame after so =
    option_and_then_some (λ (kind : ℕ). if kind_goes_to method.program method.class kind then above kind else None) (holder method index) after so
    (λ kind there rule. record { kind = kind; holds = there; goes = (when (kind_goes_to method.program method.class kind) (above kind) after rule).0 })
  where
    above : ℕ → Option verified.Frame
    above kind = option_and_then (λ (rest : List VerificationType). call_on method index member frame method.class) (popped method.program (on_object (taken_types member) kind) frame.stack)

-- a class isn't assignable to an array
no_array : (among : List ℕ → List ℕ → Bool) (rest other : List ℕ) → is_array other ≡ true → is_subtype among (letter_class ∷ rest) other ≡ true → ⊥
no_array among rest [] is goes = false≢true goes
no_array among rest (unit ∷ others) is goes =
    let same : unit ≡ bracket = eqb-true unit bracket is in
    false≢true (subst (λ (unit : ℕ). is_subtype among (letter_class ∷ rest) (unit ∷ others) ≡ true) same goes)

module _ (program : Linked) (linked : Links program) where
  array_apart : (class kind : ℕ) (name : List ℕ) → class < length program.classes → number_of program.kinds name ≡ Some kind → is_array name ≡ true
      → kind_goes_to program class kind ≡ true → ⊥
  array_apart class kind name low numbered is goes =
      let (file, there) = class_there program linked.formed linked.kinds linked.front class low in
      let so : is_subtype (is_assignable program.classes) (type_of_kind program class) (type_of_kind program kind) ≡ true =
      (and_parts (nat_lt class (length program.kinds) && nat_lt kind (length program.kinds)) (assignable program class kind) goes).1 in
      no_array (is_assignable program.classes) (name_of file ++ semicolon ∷ []) name is
      (sym (ap (λ (type : List ℕ). is_subtype (is_assignable program.classes) type (type_of_kind program kind))
      (ap (λ (found : Option (List ℕ)). type_of_name (or_none found)) (linked.kinds.kind class file there)
      ∙ type_is (name_of file) (own_class_name file (all_at IsWellFormed program.classes class file linked.formed there)))
      ∙ ap (is_subtype (is_assignable program.classes) (letter_class ∷ name_of file ++ semicolon ∷ []))
      (ap (λ (found : Option (List ℕ)). type_of_name (or_none found)) (text_numbered program.kinds name kind numbered)
      ∙ ap (λ (test : Bool). cond test name (letter_class ∷ name ++ semicolon ∷ [])) is)) ∙ so)

  -- so a class is named, and its kind is its number
  record IsNamedClass (member : MemberNames) (kind : ℕ) : Type 0 where
    pub is : class_number program.classes member.class ≡ Some kind

  named_class : (member : MemberNames) (number class kind : ℕ) → class < length program.classes → number_of program.kinds member.class ≡ Some kind
      → found_method program.classes member ≡ Some number → kind_goes_to program class kind ≡ true → IsNamedClass member kind
  named_class member number class kind low numbered found goes = go (is_array member.class) refl
      (found_in program.classes member number linked.whole.good found)
    where
      by : (own : ℕ) → class_number program.classes member.class ≡ Some own → IsNamedClass member kind
      by own is =
          let same : own ≡ kind = same_Some own kind (sym (kind_numbered program linked.whole linked.once member.class own is) ∙ numbered) in
          record { is = is ∙ ap {B = Option ℕ} Some same }

      go : (array : Bool) → is_array member.class ≡ array → FoundIn program.classes member number → IsNamedClass member kind
      go true is found = absurd (array_apart class kind member.class low numbered is goes)
      go false is found = by found.class (sym (ap (λ (test : Bool). cond test (Some object) (class_number program.classes member.class)) is) ∙ found.held)

  -- ---- what is run

  module _ (resolved : ℕ) (own : Numbered Method) (there : slice_get (methods_of program.classes) resolved ≡ Some own) (held : ℕ) where
    superclass_suits : (class above number : ℕ) (more : List ℕ) → class < length program.classes → holds_kind program held class ≡ true
        → superclass (hierarchy program.classes) class ≡ above ∷ more
        → run_from program above (ranked_method program.classes own).declared.signature ≡ chosen.Method number → Suits program linked resolved own there held number
    superclass_suits class above number more low holds up runs =
        chosen_suits program linked resolved own there held number above one
        (held_from program linked held class one.method.declared.class low holds
        (subclass_next (hierarchy program.classes) (no_cycle program linked) (named_low program.classes) class above one.method.declared.class within
        (subclass_parent (hierarchy program.classes) (no_cycle program linked) (named_low program.classes) class above among within) one.under)
        (declared_low program linked number one.method one.there))
      where
        super : Contains (superclass (hierarchy program.classes) class) above
        super = subst (λ (list : List ℕ). Contains list above) (sym up) (0, omega arith, refl)

        among : Contains (parents (hierarchy program.classes) class) above
        among = Contains-append_left (superclass (hierarchy program.classes) class) (superinterfaces (hierarchy program.classes) class) above super

        within : class < length (hierarchy program.classes)
        within = omega (arith, low, length-map program.classes (ranked program.classes))

        one : Selectable program linked above (ranked_method program.classes own).declared.signature number
        one =
            from_chosen (hierarchy program.classes) (no_cycle program linked) (named_low program.classes) (ranked_methods program.classes) above
            (ranked_method program.classes own).declared.signature number (named_low program.classes class above among) runs

    upwards_suits : (class number : ℕ) → class < length program.classes → holds_kind program held class ≡ true → is_static_method own ≡ false
        → is_upwards program class own.class ≡ true → found (ranked_methods program.classes) resolved ≡ chosen.Method number → Suits program linked resolved own there held number
    upwards_suits class number low holds object_method up runs =
        let within : class < length (hierarchy program.classes) = omega (arith, low, length-map program.classes (ranked program.classes)) in
        subst (Suits program linked resolved own there held)
        (found_is (ranked_methods program.classes) resolved number runs)
        (own_suits program linked resolved own there held object_method
        (held_from program linked held class own.class low holds
        (stands_under (hierarchy program.classes) (no_cycle program linked) (named_low program.classes) class own.class within up)
        (declared_low program linked resolved (ranked_method program.classes own) (ranked_there program linked resolved own there))))

    interfaces_suit : (class number : ℕ) → class < length program.classes → holds_kind program held class ≡ true
        → found_among (most_specific (hierarchy program.classes) (ranked_methods program.classes) class (ranked_method program.classes own).declared.signature) ≡ chosen.Method number
        → Suits program linked resolved own there held number
    interfaces_suit class number low holds runs =
        let one : Selectable program linked class (ranked_method program.classes own).declared.signature number =
        among_chosen (hierarchy program.classes) (no_cycle program linked) (named_low program.classes) (ranked_methods program.classes) class
        (ranked_method program.classes own).declared.signature number runs in
        chosen_suits program linked resolved own there held number class one
        (held_from program linked held class one.method.declared.class low holds one.under (declared_low program linked number one.method one.there))

-- ---- a call

module _ (machine : Machine) (state : State) (frame : MethodFrame) (below : List Frame) (insn : Insn) (index : ℕ) (linked : Links machine.program)
    (call : Call machine state frame below insn (actions.InvokeSpecial index)) (names : NamesMethod machine.program frame.method frame.pc opcodes.INVOKESPECIAL index call.at.method)
    (no_init : is_init (name_at call.at.method index) ≡ false) where
  abbrev own : Numbered Method
  own = names.declared.own

  abbrev number : ℕ
  number = names.callee.number

  abbrev method : Within
  method = call.at.method

  caller : HasParts machine.program frame.method method
  caller = has_parts machine.program frame.method method call.at.within

  own_class_low : method.class < length machine.program.classes
  own_class_low =
      subst (λ (class : ℕ). class < length machine.program.classes) caller.class (class_low machine.program frame.method caller.linked linked.whole caller.is_linked)

  is_linked : slice_get machine.program.methods number ≡ Some (linked_method machine.program.kinds own)
  is_linked = linked_there machine.program linked.whole number own names.declared.there

  leaves : call_special method index (member_at method frame.pc) call.at.types ≡ Some call.after
  leaves =
      sym (ap (λ (test : Bool). if test then construct method index (member_at method frame.pc) call.at.types else call_special method index (member_at method frame.pc) call.at.types) no_init)
      ∙ leaves_by machine state frame below insn (actions.InvokeSpecial index) call

  by_rule : Exchanged method call.at.types call.after (map type_of (listed (linked_method machine.program.kinds own).result))
      (on_object (map type_of (reverse (linked_method machine.program.kinds own).parameters)) method.class)
  by_rule =
      subst (λ (member : Member). Exchanged method call.at.types call.after (given_types member) (on_object (taken_types member) method.class))
      (member_there machine.program frame.method frame.pc number method (linked_method machine.program.kinds own) call.at.within names.names is_linked)
      (special_by method index (member_at method frame.pc) call.at.types call.after leaves)

  rule : SpecialRule method index
  rule = special_rule method index (member_at method frame.pc) call.at.types call.after leaves

  goes : kind_goes_to machine.program method.class rule.kind ≡ true
  goes = subst (λ (program : Linked). kind_goes_to program method.class rule.kind ≡ true) call.own rule.goes

  named : class_number machine.program.classes names.member.class ≡ Some rule.kind
  named =
      (named_class machine.program linked names.member number method.class rule.kind own_class_low (sym names.holder ∙ rule.holds) names.callee.found goes).is

  named_class_low : rule.kind < length machine.program.classes
  named_class_low = omega (arith, number_within machine.program.classes names.member.class rule.kind named, length-map machine.program.classes (ranked machine.program.classes))

  declares : class_declaring machine.program frame.method ≡ Some method.class
  declares = ap (option_map (λ (own : LinkedMethod). own.class)) caller.is_linked ∙ ap {B = Option ℕ} Some caller.class

  declared : class_declaring machine.program number ≡ Some own.class
  declared = ap (option_map (λ (own : LinkedMethod). own.class)) is_linked

  own_name : same_text (or_none (text_at own.pool own.member.name)) (codes "<init>") ≡ false
  own_name =
      ap (λ (texts : List ℕ × List ℕ). is_init texts.0) (found_texts machine.program.classes names.member number own linked.whole.good names.callee.found names.declared.there)
      ∙ ap is_init (sym names.name) ∙ no_init

  signed : signature_of machine.program number ≡ Some (ranked_method machine.program.classes own).declared.signature
  signed = ap (option_map (λ (ranked : RankedMethod). ranked.declared.signature)) (ranked_there machine.program linked number own names.declared.there)

  of_objects : is_static_method own ≡ false
  of_objects =
      ap (λ (method : RankedMethod). method.is_static) names.declared.is ∙ not_true names.callee.method.is_static _ names.callee.suits
    where
      not_true : (static other : Bool) → (not static && other) ≡ true → static ≡ false
      not_true true other is = absurd (false≢true is)
      not_true false other is = refl

  holds_named : (object : ℕ) → holds_kind machine.program object method.class ≡ true → holds_kind machine.program object rule.kind ≡ true
  holds_named object holds = linked.holds object method.class rule.kind holds goes

  abbrev special_here : Selected
  special_here =
      special machine.program number (class_declaring machine.program frame.method)
      (option_and_then (class_number machine.program.classes) (holder_named machine.program frame.method index))

  -- what is selected suits each object that may be held as the class of the method that has the instruction
  module _ (object other : ℕ) (holds : holds_kind machine.program object method.class ≡ true) (runs : special_here ≡ chosen.Method other) where
    abbrev ItSuits : Type 0
    ItSuits = Suits machine.program linked number own names.declared.there object other

    proper_suits : (above : List ℕ) → superclass (hierarchy machine.program.classes) method.class ≡ above → is_proper_superclass machine.program method.class rule.kind ≡ true → ItSuits
    proper_suits [] none is =
        absurd (false≢true (sym (none_proper (hierarchy machine.program.classes) (length (hierarchy machine.program.classes)) method.class rule.kind none) ∙ is))
    proper_suits (above ∷ more) up is =
        superclass_suits machine.program linked number own names.declared.there object method.class above other more own_class_low holds up
        (sym (from_superclass machine.program frame.method number index rule.kind method.class own names.calling names.member declares names.declared.there own_name names.calls names.constant
        named above (ranked_method machine.program.classes own).declared.signature more is up signed) ∙ runs)

    other_suits : is_proper_superclass machine.program method.class rule.kind ≡ false → (up : Bool) → is_upwards machine.program rule.kind own.class ≡ up → ItSuits
    other_suits none true up =
        upwards_suits machine.program linked number own names.declared.there object rule.kind other named_class_low (holds_named object holds) of_objects up
        (sym (as_resolved machine.program frame.method number index rule.kind method.class own names.calling names.member declares names.declared.there own_name names.calls names.constant
        named own.class none declared up) ∙ runs)
    other_suits none false up =
        interfaces_suit machine.program linked number own names.declared.there object rule.kind other named_class_low (holds_named object holds)
        (sym (of_interfaces machine.program frame.method number index rule.kind method.class own names.calling names.member declares names.declared.there own_name names.calls names.constant
        named own.class (ranked_method machine.program.classes own).declared.signature none declared up signed) ∙ runs)

    special_suits : ItSuits
    special_suits = go (is_proper_superclass machine.program method.class rule.kind) refl where
      go : (test : Bool) → is_proper_superclass machine.program method.class rule.kind ≡ test → ItSuits
      go true is = proper_suits (superclass (hierarchy machine.program.classes) method.class) refl is
      go false is = other_suits is (is_upwards machine.program rule.kind own.class) refl

  -- so it takes the arguments
  pub special_takes : (other : ℕ) (arguments : List Value) → OnObject state frame (length (parameters_at machine.program number)) arguments → special_here ≡ chosen.Method other
      → Takes machine.program (kinds_of state.objects) method other arguments
  special_takes other arguments on runs =
      object_takes machine state frame below insn (actions.InvokeSpecial index) linked call number method.class own names.declared.there by_rule other arguments on
      (λ holds. special_suits on.object.kind other holds runs)

  pub special_advances : IsTyped machine.program → (CallsNative machine state frame below → Advances machine state)
      → plan machine state ≡ invokes_special (now_at machine state frame below) index → Advances machine state
  special_advances fits natives does =
      object_advances machine state frame below insn (actions.InvokeSpecial index) linked call number method.class own names.declared.there by_rule fits natives
      (falls_by insn (actions.InvokeSpecial index) call.acts refl) (λ (object : ℕ). special_here)
      (record {
        found = invokes_special (now_at machine state frame below) index;
        does = does;
        on_null = special_null (now_at machine state frame below) number names.names index;
        on_one = special_runs (now_at machine state frame below) number names.names index;
      })
      special_suits
