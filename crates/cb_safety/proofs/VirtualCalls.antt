-- A typed state advances at an invokevirtual and at an invokeinterface, in a linked program.
use Rattle.std.proofs.Common.{◌≡◌, ◌∙◌, refl, sym, subst, arith, ℕ, suc, ◌==◌, Bool, true, false, List, [], ◌∷◌, ◌++◌, length, map, reverse, Option, Some, None, option_and_then, if◌then◌else◌}
use Rattle.std.proofs.lemmas.Option.{option_and_then_some}
use Rattle.cb_classfile.specs.declared.method.Method.{Method}
use Rattle.cb_hierarchy.specs.Classes.{listed}
use Rattle.cb_hierarchy.specs.Resolution.{is_private, method_is}
use Rattle.cb_hierarchy.specs.declared.selected.Selected.TheVariants as chosen
use Rattle.cb_insn.specs.declared.insn.Insn.{Insn}
use Rattle.cb_insn.specs.declared.opcode.TheConstants as opcodes
use Rattle.cb_kinds.specs.Texts.{number_of}
use Rattle.cb_link.specs.Calls.{select}
use Rattle.cb_link.specs.Having.{parameters_at}
use Rattle.cb_link.specs.Named.{code_at, insn_in}
use Rattle.cb_link.specs.Numbers.{Numbered, ranked_methods}
use Rattle.cb_link.specs.Program.{linked_method}
use Rattle.cb_link.specs.Special.{holder_named}
use Rattle.cb_link.specs.Subtypes.{instance}
use Rattle.cb_link.specs.declared.named.Named.TheVariants as meanings
use Rattle.cb_machine.specs.Calling.{asked_sorts, implementing, invokes_interface, invokes_virtual}
use Rattle.cb_machine.specs.Machine.{Machine, method_numbered}
use Rattle.cb_machine.specs.Sites.{incompatible_class_change, null_pointer}
use Rattle.cb_machine.specs.Standing.{Now, named_here, taken}
use Rattle.cb_machine.specs.Steps.{plan}
use Rattle.cb_machine.specs.Throwing.{throws}
use Rattle.cb_plain.specs.State.{Frame, MethodFrame, Object as StateObject, OfMethod, State}
use Rattle.cb_plain.specs.Updates.{object_at}
use Rattle.cb_plain.specs.declared.value.Value.{Value}
use Rattle.cb_plain.specs.declared.value.Value.TheVariants as values
use Rattle.cb_shapes.specs.Shapes.{action_of}
use Rattle.cb_shapes.specs.declared.action.Action.TheVariants as actions
use Rattle.cb_shapes.specs.declared.sort.Sort.TheVariants as sorts
use Rattle.cb_text.specs.Naming.{MemberNames, member_at as member_named}
use Rattle.cb_verify.specs.Calls.{call_interface, call_on, call_virtual, exchanged, is_callable, on_object}
use Rattle.cb_verify.specs.Frames as verified
use Rattle.cb_verify.specs.Members.{Member, given_types, member_at, taken_types}
use Rattle.cb_verify.specs.Typed.{IsTyped}
use Rattle.cb_verify.specs.Types.{type_of}
use Rattle.cb_verify.specs.Within.{Within, holder, name_at}
use Rattle.cb_safety.specs.Advancing.{Advances}
use Rattle.cb_safety.specs.Kinds.{holds_kind, kinds_of}
use Rattle.cb_safety.specs.Linked.{IsLinked}
use Rattle.cb_safety.specs.Natives.{CallsNative}
use Rattle.cb_safety.specs.States.{IsTypedState}
use Rattle.cb_safety.proofs.Assigned.{when}
use Rattle.cb_safety.proofs.CallNames.{NamesMethod, names_method}
use Rattle.cb_safety.proofs.Called.{Call, Exchanged, call_of, exchanged_by, falls_by, leaves_by, member_there}
use Rattle.cb_safety.proofs.Going.{advances_by, now_at, running}
use Rattle.cb_safety.proofs.Links.{Links, links}
use Rattle.cb_safety.proofs.ObjectCalls.{object_advances, object_takes}
use Rattle.cb_safety.proofs.Receiving.{OnObject}
use Rattle.cb_safety.proofs.Runs.{Takes, by_method, linked_there}
use Rattle.cb_safety.proofs.Suited.{Suits, virtual_suits}
use Rattle.cb_safety.proofs.Throwing.{kind_low, throws_typed}

-- ---- what the machine does

module _ (now : Now) (number : ℕ) (names : named_here now ≡ meanings.Method number) where
  virtual_null : (held arguments left : List Value) → taken (asked_sorts now.machine.program number ++ sorts.Reference ∷ []) now.frame.stack ≡ Some (held, left)
      → reverse held ≡ values.Ref 0 ∷ arguments → invokes_virtual now ≡ Some (throws now.machine now.state null_pointer)
  virtual_null held arguments left took first = rw (names, took, first) refl

  virtual_runs : (place : ℕ) (object : StateObject) (held arguments left : List Value)
      → taken (asked_sorts now.machine.program number ++ sorts.Reference ∷ []) now.frame.stack ≡ Some (held, left)
      → reverse held ≡ values.Ref (suc place) ∷ arguments → object_at now.state (suc place) ≡ Some object
      → invokes_virtual now ≡ by_method now (values.Ref (suc place) ∷ arguments) left (select now.machine.program object.kind number)
  virtual_runs place object held arguments left took first there = rw (names, took, first, there) refl

  -- a private method isn't called so
  interface_private : (index : ℕ) → method_is (ranked_methods now.machine.program.classes) (λ own. is_private own.visibility) number ≡ true
      → invokes_interface now index ≡ Some (throws now.machine now.state incompatible_class_change)
  interface_private index private = rw (names, private) refl

  module _ (index kind : ℕ) (own : Numbered Method) (member : MemberNames) (public : method_is (ranked_methods now.machine.program.classes) (λ own. is_private own.visibility) number ≡ false)
      (own_is : method_numbered now.machine.program now.frame.method ≡ Some own) (member_is : member_named own.pool index ≡ Some member)
      (kind_is : number_of now.machine.program.kinds member.class ≡ Some kind) where
    interface_null : (held arguments left : List Value) → taken (asked_sorts now.machine.program number ++ sorts.Reference ∷ []) now.frame.stack ≡ Some (held, left)
        → reverse held ≡ values.Ref 0 ∷ arguments → invokes_interface now index ≡ Some (throws now.machine now.state null_pointer)
    interface_null held arguments left took first = rw (names, public, took, first) refl

    interface_runs : (place : ℕ) (object : StateObject) (held arguments left : List Value)
        → taken (asked_sorts now.machine.program number ++ sorts.Reference ∷ []) now.frame.stack ≡ Some (held, left)
        → reverse held ≡ values.Ref (suc place) ∷ arguments → object_at now.state (suc place) ≡ Some object
        → invokes_interface now index ≡ by_method now (values.Ref (suc place) ∷ arguments) left
        (if instance now.machine.program object.kind kind then select now.machine.program object.kind number else chosen.Several)
    interface_runs place object held arguments left took first there = rw (names, public, took, first, there, own_is, member_is, kind_is) refl

-- ---- what the verifier's rule says

record VirtualRule (method : Within) (index : ℕ) (member : Member) (frame after : verified.Frame) : Type 0 where
  pub kind : ℕ
  pub holds : holder method index ≡ Some kind
  pub exchanges : Exchanged method frame after (given_types member) (on_object (taken_types member) kind)

virtual_by : (method : Within) (index : ℕ) (member : Member) (frame after : verified.Frame) → call_virtual method index member frame ≡ Some after
    → VirtualRule method index member frame after
virtual_by method index member frame after so =
    option_and_then_some (call_on method index member frame) (holder method index) after so
    (λ kind there called. record {
      kind = kind;
      holds = there;
      exchanges = exchanged_by method frame after (given_types member) (on_object (taken_types member) kind)
          (when (is_callable (name_at method index)) (exchanged method frame (given_types member) (on_object (taken_types member) kind)) after called).1;
    })

interface_by : (method : Within) (index count : ℕ) (member : Member) (frame after : verified.Frame) → call_interface method index count member frame ≡ Some after
    → VirtualRule method index member frame after
interface_by method index count member frame after so =
    virtual_by method index member frame after (when (count == verified.height (on_object (taken_types member) 0)) (call_virtual method index member frame) after so).1

-- ---- invokevirtual

module _ (machine : Machine) (state : State) (frame : MethodFrame) (below : List Frame) (insn : Insn) (index : ℕ) (linked : Links machine.program)
    (call : Call machine state frame below insn (actions.InvokeVirtual index)) (names : NamesMethod machine.program frame.method frame.pc opcodes.INVOKEVIRTUAL index call.at.method) where
  abbrev own : Numbered Method
  own = names.declared.own

  abbrev number : ℕ
  number = names.callee.number

  rule : VirtualRule call.at.method index (member_at call.at.method frame.pc) call.at.types call.after
  rule =
      virtual_by call.at.method index (member_at call.at.method frame.pc) call.at.types call.after
      (leaves_by machine state frame below insn (actions.InvokeVirtual index) call)

  by_rule : Exchanged call.at.method call.at.types call.after (map type_of (listed (linked_method machine.program.kinds own).result))
      (on_object (map type_of (reverse (linked_method machine.program.kinds own).parameters)) rule.kind)
  by_rule =
      subst (λ (member : Member). Exchanged call.at.method call.at.types call.after (given_types member) (on_object (taken_types member) rule.kind))
      (member_there machine.program frame.method frame.pc number call.at.method (linked_method machine.program.kinds own) call.at.within names.names
      (linked_there machine.program linked.whole number own names.declared.there)) rule.exchanges

  selected_suits : (object other : ℕ) → holds_kind machine.program object rule.kind ≡ true → select machine.program object number ≡ chosen.Method other
      → Suits machine.program linked number own names.declared.there object other
  selected_suits object other holds is = virtual_suits machine.program linked number own names.declared.there object other (kind_low machine.program object rule.kind holds) is

  -- the method that is selected takes the arguments
  pub virtual_takes : (other : ℕ) (arguments : List Value) (on : OnObject state frame (length (parameters_at machine.program number)) arguments)
      → select machine.program on.object.kind number ≡ chosen.Method other → Takes machine.program (kinds_of state.objects) call.at.method other arguments
  virtual_takes other arguments on is =
      object_takes machine state frame below insn (actions.InvokeVirtual index) linked call number rule.kind own names.declared.there by_rule other arguments on
      (λ holds. selected_suits on.object.kind other holds is)

  virtual_advances : IsTyped machine.program → (CallsNative machine state frame below → Advances machine state)
      → plan machine state ≡ invokes_virtual (now_at machine state frame below) → Advances machine state
  virtual_advances fits natives does =
      object_advances machine state frame below insn (actions.InvokeVirtual index) linked call number rule.kind own names.declared.there by_rule fits natives
      (falls_by insn (actions.InvokeVirtual index) call.acts refl) (λ (object : ℕ). select machine.program object number)
      (record {
        found = invokes_virtual (now_at machine state frame below);
        does = does;
        on_null = virtual_null (now_at machine state frame below) number names.names;
        on_one = virtual_runs (now_at machine state frame below) number names.names;
      })
      selected_suits

-- ---- invokeinterface

module _ (machine : Machine) (state : State) (frame : MethodFrame) (below : List Frame) (insn : Insn) (index count : ℕ) (linked : Links machine.program)
    (call : Call machine state frame below insn (actions.InvokeInterface index count)) (names : NamesMethod machine.program frame.method frame.pc opcodes.INVOKEINTERFACE index call.at.method) where
  abbrev called : Numbered Method
  called = names.declared.own

  abbrev resolved : ℕ
  resolved = names.callee.number

  interface_rule : VirtualRule call.at.method index (member_at call.at.method frame.pc) call.at.types call.after
  interface_rule =
      interface_by call.at.method index count (member_at call.at.method frame.pc) call.at.types call.after
      (leaves_by machine state frame below insn (actions.InvokeInterface index count) call)

  exchanges : Exchanged call.at.method call.at.types call.after (map type_of (listed (linked_method machine.program.kinds called).result))
      (on_object (map type_of (reverse (linked_method machine.program.kinds called).parameters)) interface_rule.kind)
  exchanges =
      subst (λ (member : Member). Exchanged call.at.method call.at.types call.after (given_types member) (on_object (taken_types member) interface_rule.kind))
      (member_there machine.program frame.method frame.pc resolved call.at.method (linked_method machine.program.kinds called) call.at.within names.names
      (linked_there machine.program linked.whole resolved called names.declared.there)) interface_rule.exchanges

  implementing_suits : (interface : Option ℕ) (object other : ℕ) → holds_kind machine.program object interface_rule.kind ≡ true
      → implementing machine.program resolved interface object ≡ chosen.Method other → Suits machine.program linked resolved called names.declared.there object other
  implementing_suits None object other holds is = absurd (cc is)
  implementing_suits (Some interface) object other holds is = go (instance machine.program object interface) is where
    go : (test : Bool) → (if test then select machine.program object resolved else chosen.Several) ≡ chosen.Method other
        → Suits machine.program linked resolved called names.declared.there object other
    go true is = virtual_suits machine.program linked resolved called names.declared.there object other (kind_low machine.program object interface_rule.kind holds) is
    go false is = absurd (cc is)

  -- the method that is selected takes the arguments
  pub interface_takes : (other : ℕ) (arguments : List Value) (on : OnObject state frame (length (parameters_at machine.program resolved)) arguments)
      → implementing machine.program resolved (option_and_then (number_of machine.program.kinds) (holder_named machine.program frame.method index)) on.object.kind ≡ chosen.Method other
      → Takes machine.program (kinds_of state.objects) call.at.method other arguments
  interface_takes other arguments on is =
      object_takes machine state frame below insn (actions.InvokeInterface index count) linked call resolved interface_rule.kind called names.declared.there exchanges other arguments on
      (λ holds. implementing_suits (option_and_then (number_of machine.program.kinds) (holder_named machine.program frame.method index)) on.object.kind other holds is)

  module _ (fits : IsTyped machine.program) (natives : CallsNative machine state frame below → Advances machine state)
      (does : plan machine state ≡ invokes_interface (now_at machine state frame below) index) where
    public_advances : method_is (ranked_methods machine.program.classes) (λ own. is_private own.visibility) resolved ≡ false → Advances machine state
    public_advances public =
        object_advances machine state frame below insn (actions.InvokeInterface index count) linked call resolved interface_rule.kind called names.declared.there exchanges fits natives
        (falls_by insn (actions.InvokeInterface index count) call.acts refl)
        (λ (object : ℕ). if instance machine.program object interface_rule.kind then select machine.program object resolved else chosen.Several)
        (record {
          found = invokes_interface (now_at machine state frame below) index;
          does = does;
          on_null = interface_null (now_at machine state frame below) resolved names.names index interface_rule.kind names.calling names.member public names.calls names.constant
              (sym names.holder ∙ interface_rule.holds);
          on_one = interface_runs (now_at machine state frame below) resolved names.names index interface_rule.kind names.calling names.member public names.calls names.constant
              (sym names.holder ∙ interface_rule.holds);
        })
        (implementing_suits (Some interface_rule.kind))

    interface_advances : Advances machine state
    interface_advances = go (method_is (ranked_methods machine.program.classes) (λ own. is_private own.visibility) resolved) refl where
      go : (test : Bool) → method_is (ranked_methods machine.program.classes) (λ own. is_private own.visibility) resolved ≡ test → Advances machine state
      go true private =
          advances_by machine state (Some (throws machine state incompatible_class_change))
          (does ∙ interface_private (now_at machine state frame below) resolved names.names index private)
          (record {
            plan = throws machine state incompatible_class_change;
            is = refl;
            typed = throws_typed machine state incompatible_class_change call.typed (linked.thrown incompatible_class_change (9, omega arith, refl));
          })
      go false public = public_advances public

-- ---- the state

module _ (machine : Machine) (state : State) (frame : MethodFrame) (below : List Frame) (insn : Insn) (linked : IsLinked machine.program) (fits : IsTyped machine.program)
    (typed : IsTypedState machine.program state) (ended : state.exit ≡ None) (zero : state.roots.pending ≡ 0) (frames : state.roots.frames ≡ OfMethod frame ∷ below)
    (there : insn_in (code_at machine.program frame.method) frame.pc ≡ Some insn) where
  them : Links machine.program
  them = links machine.program linked

  pub virtual_calls_advance : (index : ℕ) → action_of insn ≡ Some (actions.InvokeVirtual index) → (CallsNative machine state frame below → Advances machine state) → Advances machine state
  virtual_calls_advance index so natives =
      virtual_advances machine state frame below insn index them call
      (names_method machine.program them.whole them.formed them.none them.spelled frame.method frame.pc call.at.method insn (actions.InvokeVirtual index) (opcodes.INVOKEVIRTUAL, index) call.at.within there so refl)
      fits natives (running machine state frame below insn (actions.InvokeVirtual index) ended zero frames there so)
    where
      call : Call machine state frame below insn (actions.InvokeVirtual index)
      call = call_of machine state frame below insn (actions.InvokeVirtual index) fits them.spelled them.holds typed zero frames there so

  pub interface_calls_advance : (index count : ℕ) → action_of insn ≡ Some (actions.InvokeInterface index count) → (CallsNative machine state frame below → Advances machine state)
      → Advances machine state
  interface_calls_advance index count so natives =
      interface_advances machine state frame below insn index count them call
      (names_method machine.program them.whole them.formed them.none them.spelled frame.method frame.pc call.at.method insn (actions.InvokeInterface index count) (opcodes.INVOKEINTERFACE, index) call.at.within there so
      refl) fits natives (running machine state frame below insn (actions.InvokeInterface index count) ended zero frames there so)
    where
      call : Call machine state frame below insn (actions.InvokeInterface index count)
      call = call_of machine state frame below insn (actions.InvokeInterface index count) fits them.spelled them.holds typed zero frames there so
