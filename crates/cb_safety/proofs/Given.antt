-- What a native that takes a string is given: the topmost value at its call is a string, or null.
use Rattle.std.proofs.Common.{◌≡◌, ◌∙◌, ap, arith, refl, sym, subst, ℕ, suc, ◌<◌, ◌==◌, Bool, true, false, not, ◌&&◌, List, [], ◌∷◌, ◌++◌, length, map, reverse, Option, Some, None, option_and_then, option_map, slice_get, if◌then◌else◌}
use Rattle.std.specs.List.{Contains}
use Rattle.std.specs.Prelude.{is_none}
use Rattle.std.proofs.lemmas.Bool.{false≢true}
use Rattle.std.proofs.lemmas.List.Elements.{Contains-append_left}
use Rattle.std.proofs.lemmas.Option.{option_and_then_some, same_Some, slice_get-map}
use Rattle.cb_classfile.specs.Flags.{acc_static}
use Rattle.cb_classfile.specs.declared.method.Method.{Method}
use Rattle.cb_hierarchy.specs.Classes.{parents, superclass, superinterfaces}
use Rattle.cb_hierarchy.specs.Resolution.{most_specific}
use Rattle.cb_hierarchy.specs.Selection.{found, found_among, selected_from}
use Rattle.cb_hierarchy.specs.declared.member.Method.{Method as RankedMethod}
use Rattle.cb_hierarchy.specs.declared.selected.Selected.TheVariants as chosen
use Rattle.cb_insn.specs.declared.insn.Insn.{Insn}
use Rattle.cb_insn.specs.declared.opcode.TheConstants as opcodes
use Rattle.cb_kinds.specs.declared.basic.Basic.{Basic}
use Rattle.cb_kinds.specs.declared.basic.Basic.TheVariants as basics
use Rattle.cb_library.specs.declared.native.Native.{Native}
use Rattle.cb_link.specs.Calls.{select}
use Rattle.cb_link.specs.Having.{parameters_at}
use Rattle.cb_link.specs.Named.{code_at, insn_in, named}
use Rattle.cb_link.specs.Numbers.{Numbered, has_flag, hierarchy, methods_of, ranked_method, ranked_methods}
use Rattle.cb_link.specs.Program.{Linked, linked_method}
use Rattle.cb_link.specs.Special.{among_interfaces, as_resolved, class_declaring, declared_above, from_class, from_superclass, is_constructor, is_proper, or_abstract, signature_of, special}
use Rattle.cb_link.specs.Subtypes.{instance}
use Rattle.cb_link.specs.declared.linked.LinkedMethod.{LinkedMethod}
use Rattle.cb_link.specs.declared.named.Named.TheVariants as meanings
use Rattle.cb_machine.specs.Arrays.{element_of}
use Rattle.cb_machine.specs.Calling.{implementing}
use Rattle.cb_machine.specs.Machine.{Machine}
use Rattle.cb_machine.specs.Natives.{native_of}
use Rattle.cb_machine.specs.Performing.{reference_at, value_slot}
use Rattle.cb_plain.specs.State.{Frame, MethodFrame, Object as StateObject, OfMethod, Reference, State}
use Rattle.cb_plain.specs.Updates.{object_in}
use Rattle.cb_plain.specs.declared.value.Value.{Value}
use Rattle.cb_plain.specs.declared.value.Value.TheVariants as values
use Rattle.cb_shapes.specs.Shapes.{action_of}
use Rattle.cb_shapes.specs.declared.action.Action.{Action}
use Rattle.cb_shapes.specs.declared.action.Action.TheVariants as actions
use Rattle.cb_verify.specs.Calls.{call_above, call_interface, call_on, call_special, call_static, call_virtual, exchanged, is_callable, on_object, popped}
use Rattle.cb_verify.specs.Frames as verified
use Rattle.cb_verify.specs.Leaving.{construct, constructed, left_with}
use Rattle.cb_verify.specs.Members.{Member, given_types, member_at, taken_types}
use Rattle.cb_verify.specs.Typed.{IsTyped}
use Rattle.cb_verify.specs.Types.{goes_to, kind_goes_to, type_of}
use Rattle.cb_verify.specs.Within.{Within, holder, is_init, kind_of_string, name_at}
use Rattle.cb_verify.specs.declared.verification_type.VerificationType.{VerificationType}
use Rattle.cb_verify.specs.declared.verification_type.VerificationType.TheVariants.{Object, Top}
use Rattle.cb_safety.specs.Advancing.{HoldsOn}
use Rattle.cb_safety.specs.Given.{Runs, StringOn}
use Rattle.cb_safety.specs.Heap.{IsHeap}
use Rattle.cb_safety.specs.Held.{HasType, IsStack}
use Rattle.cb_safety.specs.Kinds.{Kinds, Refers, kinds_of}
use Rattle.cb_safety.specs.Linked.{IsLinked}
use Rattle.cb_safety.specs.Natives.{receiver_types}
use Rattle.cb_safety.specs.Performing.{HasNatives, HasSignature}
use Rattle.cb_safety.specs.Signatures.{characters, takes_of}
use Rattle.cb_safety.specs.States.{IsTypedState}
use Rattle.cb_safety.proofs.Asking.{Found, found as object_found}
use Rattle.cb_safety.proofs.Assigned.{KindsChain, assigned, never, when}
use Rattle.cb_safety.proofs.CallNames.{IsDeclared, NamesMethod, call_of as opcode_of, declared, names_method}
use Rattle.cb_safety.proofs.Called.{Call, Exchanged, call_of, exchanged_by, leaves_by, member_there, parameters_there}
use Rattle.cb_safety.proofs.Chosen.{among_chosen, found_is, from_chosen}
use Rattle.cb_safety.proofs.LinkedNatives.{has_natives}
use Rattle.cb_safety.proofs.Links.{Links, links}
use Rattle.cb_safety.proofs.Natively.{HasArray, array_elements, string_array}
use Rattle.cb_safety.proofs.Ordered.{named_low}
use Rattle.cb_safety.proofs.Runs.{linked_there}
use Rattle.cb_safety.proofs.Signed.{same_parameters, same_signature, texts_of}
use Rattle.cb_safety.proofs.Suited.{Selectable, Suits, no_cycle, ranked_there, virtual_suits}
use Rattle.cb_safety.proofs.Taken.{no_basic}

-- ---- the topmost value

record Topped (method : Within) (kinds : Kinds) (basic : Basic) (stack : List Value) : Type 0 where
  pub value : Value
  pub on : slice_get stack 0 ≡ Some value
  pub has : HasType method kinds (type_of basic) value

top_typed : (method : Within) → KindsChain method.program → (kinds : Kinds) (basic : Basic) (others types : List VerificationType) (stack : List Value) (rest : List VerificationType)
    → IsStack method kinds types stack → popped method.program (type_of basic ∷ others) types ≡ Some rest → Topped method kinds basic stack
top_typed method chain kinds basic others types stack rest IsStack.Empty some = never some
top_typed method chain kinds basic others types stack rest (IsStack.Upon type value more below has words is) some =
    let both = when (goes_to method.program type (type_of basic)) (popped method.program others more) rest some in
    record { value = value; on = refl; has = assigned method chain kinds type (type_of basic) value both.0 has }
top_typed method chain kinds basic others types stack rest (IsStack.Halves number more below is) some =
    absurd (false≢true (sym (no_basic method.program basic)
    ∙ (when (goes_to method.program Top (type_of basic)) (popped method.program others (Top ∷ more)) rest some).0))

reference_in : (method : Within) (kinds : Kinds) (kind : ℕ) (value : Value) → HasType method kinds (Object kind) value
    → (serial : ℕ) × (value ≡ values.Ref serial) × Refers method.program kinds kind serial
reference_in method kinds kind value (HasType.AReference own serial refers) = (serial, refl, refers)

-- ---- what a call takes off a stack begins with its arguments

record TakesOff (method : Within) (member : Member) (stack : List VerificationType) : Type 0 where
  pub wanted : List VerificationType
  pub rest : List VerificationType
  pub off : popped method.program wanted stack ≡ Some rest
  pub begins : (first : VerificationType) (more : List VerificationType) → taken_types member ≡ first ∷ more
      → (others : List VerificationType) × (wanted ≡ first ∷ others)

module _ (method : Within) (index : ℕ) (member : Member) (frame after : verified.Frame) where
  alone_off : (rest : List VerificationType) → popped method.program (taken_types member) frame.stack ≡ Some rest → TakesOff method member frame.stack
  alone_off rest off = record { wanted = taken_types member; rest = rest; off = off; begins = λ first more is. (more, is) }

  on_off : (kind : ℕ) → call_on method index member frame kind ≡ Some after → TakesOff method member frame.stack
  on_off kind so =
      let own : Exchanged method frame after (given_types member) (on_object (taken_types member) kind) =
      exchanged_by method frame after (given_types member) (on_object (taken_types member) kind)
      (when (is_callable (name_at method index)) (exchanged method frame (given_types member) (on_object (taken_types member) kind)) after so).1 in
      record {
        wanted = on_object (taken_types member) kind;
        rest = own.rest;
        off = own.off;
        begins = λ first more is. (more ++ Object kind ∷ [], ap (λ (types : List VerificationType). types ++ Object kind ∷ []) is);
      }

  static_off : call_static method index member frame ≡ Some after → TakesOff method member frame.stack
  static_off so =
      let own : Exchanged method frame after (given_types member) (taken_types member) =
      exchanged_by method frame after (given_types member) (taken_types member)
      (when (is_callable (name_at method index)) (exchanged method frame (given_types member) (taken_types member)) after so).1 in
      alone_off own.rest own.off

  virtual_off : call_virtual method index member frame ≡ Some after → TakesOff method member frame.stack
  virtual_off so = option_and_then_some (call_on method index member frame) (holder method index) after so (λ kind there called. on_off kind called)

  interface_off : (count : ℕ) → call_interface method index count member frame ≡ Some after → TakesOff method member frame.stack
  interface_off count so = virtual_off (when (count == verified.height (on_object (taken_types member) 0)) (call_virtual method index member frame) after so).1

  abbrev called_above : ℕ → Option verified.Frame
  called_above kind =
      option_and_then (λ (rest : List VerificationType). call_on method index member frame method.class) (popped method.program (on_object (taken_types member) kind) frame.stack)

  special_off : call_special method index member frame ≡ Some after → TakesOff method member frame.stack
  special_off so =
      option_and_then_some (call_above method index member frame) (holder method index) after so
      (λ kind there rule.
      option_and_then_some (λ (rest : List VerificationType). call_on method index member frame method.class) (popped method.program (on_object (taken_types member) kind) frame.stack) after
      (when (kind_goes_to method.program method.class kind) (called_above kind) after rule).1
      (λ rest off called. on_off method.class called))

  abbrev made_as : ℕ → Option verified.Frame
  made_as kind = option_and_then (constructed method kind frame) (popped method.program (taken_types member) frame.stack)

  made_off : construct method index member frame ≡ Some after → TakesOff method member frame.stack
  made_off so =
      option_and_then_some made_as (holder method index) after (when (is_none member.gives) (option_and_then made_as (holder method index)) after so).1
      (λ kind there rule.
      option_and_then_some (constructed method kind frame) (popped method.program (taken_types member) frame.stack) after rule (λ rest off on. alone_off rest off))

takes_off : (method : Within) (pc : ℕ) (member : Member) (action : Action) (call : ℕ × ℕ) (frame after : verified.Frame) → opcode_of action ≡ Some call
    → left_with method pc member action frame ≡ Some after → TakesOff method member frame.stack
takes_off method pc member (actions.InvokeStatic index) call frame after is so = static_off method index member frame after so
takes_off method pc member (actions.InvokeVirtual index) call frame after is so = virtual_off method index member frame after so
takes_off method pc member (actions.InvokeInterface index count) call frame after is so = interface_off method index member frame after count so
takes_off method pc member (actions.InvokeSpecial index) call frame after is so = by (is_init (name_at method index)) so where
  by : (test : Bool) → (if test then construct method index member frame else call_special method index member frame) ≡ Some after → TakesOff method member frame.stack
  by true so = made_off method index member frame after so
  by false so = special_off method index member frame after so
takes_off method pc member other call frame after is so = never is

-- ---- the method that runs has the parameters of the one that is named

module _ (program : Linked) (linked : Links program) (resolved : ℕ) (own : Numbered Method) (there : slice_get (methods_of program.classes) resolved ≡ Some own) where
  abbrev Same : ℕ → Type 0
  Same number = parameters_at program number ≡ (linked_method program.kinds own).parameters

  abbrev signature : ℕ
  signature = (ranked_method program.classes own).declared.signature

  parameters_are : (number : ℕ) (run : Numbered Method) → slice_get (methods_of program.classes) number ≡ Some run
      → parameters_at program number ≡ (linked_method program.kinds run).parameters
  parameters_are number run is = parameters_there program number (linked_method program.kinds run) (linked_there program linked.whole number run is)

  own_same : (number : ℕ) → found (ranked_methods program.classes) resolved ≡ chosen.Method number → Same number
  own_same number is = subst Same (found_is (ranked_methods program.classes) resolved number is) (parameters_are resolved own there)

  chosen_same : (class number : ℕ) → Selectable program linked class signature number → Same number
  chosen_same class number one = parameters_are number run.own run.there ∙ same_parameters program.kinds run.own own texts where
    run : IsDeclared program.classes number one.method
    run = declared program.classes number one.method one.there

    texts : texts_of run.own ≡ texts_of own
    texts =
        same_signature program.classes number resolved run.own own run.there there
        (ap (λ (method : RankedMethod). method.declared.signature) run.is ∙ one.signature_is)

  virtual_same : (kind number : ℕ) → kind < length program.kinds → select program kind resolved ≡ chosen.Method number → Same number
  virtual_same kind number low is =
      let suit : Suits program linked resolved own there kind number = virtual_suits program linked resolved own there kind number low is in
      parameters_are number suit.run suit.is ∙ suit.parameters

  interface_same : (interface : Option ℕ) (kind number : ℕ) → kind < length program.kinds → implementing program resolved interface kind ≡ chosen.Method number → Same number
  interface_same None kind number low is = absurd (cc is)
  interface_same (Some interface) kind number low is = go (instance program kind interface) is where
    go : (test : Bool) → (if test then select program kind resolved else chosen.Several) ≡ chosen.Method number → Same number
    go true is = virtual_same kind number low is
    go false is = absurd (cc is)

  signed : signature_of program.classes resolved ≡ Some signature
  signed = ap (option_map (λ (ranked : RankedMethod). ranked.declared.signature)) (ranked_there program linked resolved own there)

  from_same : (class number : ℕ) → class < length (hierarchy program.classes) → from_class program.classes class resolved ≡ chosen.Method number → Same number
  from_same class number low is =
      chosen_same class number
      (from_chosen (hierarchy program.classes) (no_cycle program linked) (named_low program.classes) (ranked_methods program.classes) class signature number low
      (sym (ap (λ (found : Option ℕ). or_abstract (option_map (selected_from (hierarchy program.classes) (ranked_methods program.classes) class) found)) signed) ∙ is))

  among_same : (class number : ℕ) → among_interfaces program.classes class resolved ≡ chosen.Method number → Same number
  among_same class number is =
      chosen_same class number
      (among_chosen (hierarchy program.classes) (no_cycle program linked) (named_low program.classes) (ranked_methods program.classes) class signature number
      (sym (ap (λ (found : Option ℕ). or_abstract (option_map (λ (signature : ℕ). found_among (most_specific (hierarchy program.classes) (ranked_methods program.classes) class signature)) found)) signed)
      ∙ is))

  above_same : (class number : ℕ) (above : List ℕ) → superclass (hierarchy program.classes) class ≡ above → from_superclass program.classes resolved above ≡ chosen.Method number
      → Same number
  above_same class number [] up is = own_same number is
  above_same class number (first ∷ more) up is = from_same first number (named_low program.classes class first among) is where
    super : Contains (superclass (hierarchy program.classes) class) first
    super = subst (λ (list : List ℕ). Contains list first) (sym up) (0, omega arith, refl)

    among : Contains (parents (hierarchy program.classes) class) first
    among = Contains-append_left (superclass (hierarchy program.classes) class) (superinterfaces (hierarchy program.classes) class) first super

  resolved_same : (name : Option ℕ) (number : ℕ) → as_resolved program resolved name ≡ chosen.Method number → Same number
  resolved_same None number is = own_same number is
  resolved_same (Some name) number is = go (declared_above program.classes name (class_declaring program resolved)) is where
    go : (test : Bool) → (if test then found (ranked_methods program.classes) resolved else among_interfaces program.classes name resolved) ≡ chosen.Method number → Same number
    go true is = own_same number is
    go false is = among_same name number is

  special_same : (class name : Option ℕ) (number : ℕ) → special program resolved class name ≡ chosen.Method number → Same number
  special_same None name number is = absurd (cc is)
  special_same (Some class) name number is = go (not (is_constructor program.classes resolved) && is_proper program.classes class name) is where
    go : (test : Bool) → (if test then from_superclass program.classes resolved (superclass (hierarchy program.classes) class) else as_resolved program resolved name) ≡ chosen.Method number
        → Same number
    go true is = above_same class number (superclass (hierarchy program.classes) class) refl is
    go false is = resolved_same name number is

  run_same : (objects : List (Option StateObject)) (caller number : ℕ) (action : Action) → IsHeap program objects → Runs program objects caller resolved number action → Same number
  run_same objects caller number action heap (Runs.Statically index same) = subst Same same (parameters_are resolved own there)
  run_same objects caller number action heap (Runs.Specially index is) = special_same _ _ number is
  run_same objects caller number action heap (Runs.Virtually index serial object at is) = virtual_same object.kind number (heap.each serial object at).kind is
  run_same objects caller number action heap (Runs.ByInterface index count serial object at is) = interface_same _ object.kind number (heap.each serial object at).kind is

run_called : (program : Linked) (objects : List (Option StateObject)) (caller resolved number : ℕ) (action : Action) → Runs program objects caller resolved number action
    → (call : ℕ × ℕ) × (opcode_of action ≡ Some call)
run_called program objects caller resolved number action (Runs.Statically index same) = ((opcodes.INVOKESTATIC, index), refl)
run_called program objects caller resolved number action (Runs.Specially index is) = ((opcodes.INVOKESPECIAL, index), refl)
run_called program objects caller resolved number action (Runs.Virtually index serial object at is) = ((opcodes.INVOKEVIRTUAL, index), refl)
run_called program objects caller resolved number action (Runs.ByInterface index count serial object at is) = ((opcodes.INVOKEINTERFACE, index), refl)

-- ---- the last parameter

record EndsWith (parameters : List Basic) (kind : ℕ) : Type 0 where
  pub last : Basic
  pub more : List Basic
  pub are : reverse parameters ≡ last ∷ more
  pub is : type_of last ≡ Object kind

ends_with : (static : Bool) (class : ℕ) (parameters : List Basic) (first kind : ℕ) → receiver_types static class ++ map type_of parameters ≡ Object first ∷ Object kind ∷ []
    → EndsWith parameters kind
ends_with true class [] first kind is = absurd (cc is)
ends_with true class (one ∷ []) first kind is = absurd (cc is)
ends_with true class (one ∷ two ∷ []) first kind is = record { last = two; more = one ∷ []; are = refl; is = cc is }
ends_with true class (one ∷ two ∷ three ∷ more) first kind is = absurd (cc is)
ends_with false class [] first kind is = absurd (cc is)
ends_with false class (one ∷ []) first kind is = record { last = one; more = []; are = refl; is = cc is }
ends_with false class (one ∷ two ∷ more) first kind is = absurd (cc is)

-- ---- the array of a string

module _ (machine : Machine) (state : State) (natives : HasNatives machine.program) (typed : IsTypedState machine.program state) (runs : state.roots.pending ≡ 0) where
  of_array : (string array : StateObject) (place : ℕ) → HasArray machine.program state string → reference_at string value_slot ≡ Some place → object_in state.objects place ≡ Some array
      → element_of machine.program array.kind ≡ Some basics.Char
  of_array string array place (HasArray.NoArray none) is there = never (ap (object_in state.objects) (same_Some 0 place (sym none ∙ is)) ∙ there)
  of_array string array place (HasArray.AnArray own found names at goes its) is there =
      subst (λ (array : StateObject). element_of machine.program array.kind ≡ Some basics.Char)
      (same_Some found array (sym at ∙ ap (object_in state.objects) (same_Some (suc own) place (sym names ∙ is)) ∙ there))
      (array_elements machine state natives typed runs (characters machine.program) basics.Char found refl natives.core.char_elements goes)

  of_string : (serial : ℕ) → Refers machine.program (kinds_of state.objects) kind_of_string serial → (string array : StateObject) (place : ℕ)
      → object_in state.objects serial ≡ Some string → slice_get string.contents 0 ≡ Some (Reference place) → object_in state.objects place ≡ Some array
      → element_of machine.program array.kind ≡ Some basics.Char
  of_string serial Refers.ToNull string array place at is there = never at
  of_string serial (Refers.To own of) string array place at is there =
      let it : Found machine.program state.objects kind_of_string own = object_found machine.program state.objects kind_of_string own typed.heap of in
      of_array string array place
      (subst (HasArray machine.program state) (same_Some it.object string (sym it.there ∙ at)) (string_array machine state natives typed runs it.object it.goes it.is)) (rw is refl) there

-- ---- at a call

-- a native is one of the program's methods
native_there : (program : Linked) (linked : Links program) (number : ℕ) (native : Native) → native_of program number ≡ Some native
    → (run : Numbered Method) × (slice_get (methods_of program.classes) number ≡ Some run)
native_there program linked number native is = go (slice_get (methods_of program.classes) number) refl where
  go : (found : Option (Numbered Method)) → slice_get (methods_of program.classes) number ≡ found → (run : Numbered Method) × (slice_get (methods_of program.classes) number ≡ Some run)
  go (Some run) at = (run, at)
  go None at =
      let none : slice_get program.methods number ≡ None =
      ap (λ (methods : List LinkedMethod). slice_get methods number) linked.whole.methods
      ∙ slice_get-map (linked_method program.kinds) (methods_of program.classes) number
      ∙ ap (option_map (linked_method program.kinds)) at in
      let no_native : native_of program number ≡ None = rw none refl in
      never (sym no_native ∙ is)

pub strings_are_given : (machine : Machine) (state : State) (frame : MethodFrame) (below : List Frame) (insn : Insn) (action : Action) (resolved number first : ℕ) (native : Native)
    → IsLinked machine.program → IsTyped machine.program → IsTypedState machine.program state → state.roots.pending ≡ 0 → state.roots.frames ≡ OfMethod frame ∷ below
    → insn_in (code_at machine.program frame.method) frame.pc ≡ Some insn → action_of insn ≡ Some action
    → named machine.program frame.method frame.pc ≡ meanings.Method resolved → Runs machine.program state.objects frame.method resolved number action
    → native_of machine.program number ≡ Some native → takes_of machine.program native ≡ Object first ∷ Object kind_of_string ∷ []
    → StringOn machine.program state frame
strings_are_given machine state frame below insn action resolved number first native linked fits typed zero frames there so names runs is takes = record {
  serial = it.0;
  on = top.on ∙ ap (λ (value : Value). Some value) it.1;
  refers = refers;
  chars = of_string machine state natives typed zero it.0 refers;
}
  where
    them : Links machine.program
    them = links machine.program linked

    natives : HasNatives machine.program
    natives = has_natives machine.program linked fits

    kinds : Kinds
    kinds = kinds_of state.objects

    call : Call machine state frame below insn action
    call = call_of machine state frame below insn action fits them.spelled them.holds typed zero frames there so

    called : (call : ℕ × ℕ) × (opcode_of action ≡ Some call)
    called = run_called machine.program state.objects frame.method resolved number action runs

    names_it : NamesMethod machine.program frame.method frame.pc called.0.0 called.0.1 call.at.method
    names_it =
        names_method machine.program them.whole them.formed them.none them.spelled frame.method frame.pc call.at.method insn action called.0 call.at.within there so called.1

    own : Numbered Method
    own = names_it.declared.own

    is_it : names_it.callee.number ≡ resolved
    is_it = let same : meanings.Method names_it.callee.number ≡ meanings.Method resolved = sym names_it.names ∙ names in cc same

    own_there : slice_get (methods_of machine.program.classes) resolved ≡ Some own
    own_there = subst (λ (number : ℕ). slice_get (methods_of machine.program.classes) number ≡ Some own) is_it names_it.declared.there

    run : (run : Numbered Method) × (slice_get (methods_of machine.program.classes) number ≡ Some run)
    run = native_there machine.program them number native is

    method : LinkedMethod
    method = linked_method machine.program.kinds run.0

    method_there : slice_get machine.program.methods number ≡ Some method
    method_there = linked_there machine.program them.whole number run.0 run.1

    signature : HasSignature machine.program native method run.0
    signature = natives.signatures number native method run.0 is method_there run.1

    ends : EndsWith method.parameters kind_of_string
    ends = ends_with (has_flag acc_static run.0.member.flags.0) method.class method.parameters first kind_of_string (signature.takes ∙ takes)

    same : (linked_method machine.program.kinds own).parameters ≡ method.parameters
    same =
        sym (run_same machine.program them resolved own own_there state.objects frame.method number action typed.heap runs)
        ∙ parameters_there machine.program number method method_there

    member : Member
    member = member_at call.at.method frame.pc

    member_is : taken_types member ≡ map type_of (reverse (linked_method machine.program.kinds own).parameters)
    member_is =
        ap taken_types
        (member_there machine.program frame.method frame.pc resolved call.at.method (linked_method machine.program.kinds own) call.at.within names
        (linked_there machine.program them.whole resolved own own_there))

    off : TakesOff call.at.method member call.at.types.stack
    off = takes_off call.at.method frame.pc member action called.0 call.at.types call.after called.1 (leaves_by machine state frame below insn action call)

    begun : (others : List VerificationType) × (off.wanted ≡ type_of ends.last ∷ others)
    begun =
        off.begins (type_of ends.last) (map type_of ends.more)
        (member_is ∙ ap (λ (parameters : List Basic). map type_of (reverse parameters)) same ∙ ap (map type_of) ends.are)

    top : Topped call.at.method kinds ends.last frame.stack
    top =
        top_typed call.at.method (subst HoldsOn (sym call.own) call.holds) kinds ends.last begun.0 call.at.types.stack frame.stack off.rest call.stack
        (subst (λ (wanted : List VerificationType). popped call.at.method.program wanted call.at.types.stack ≡ Some off.rest) begun.1 off.off)

    it : (serial : ℕ) × (top.value ≡ values.Ref serial) × Refers call.at.method.program kinds kind_of_string serial
    it = reference_in call.at.method kinds kind_of_string top.value (subst (λ (type : VerificationType). HasType call.at.method kinds type top.value) ends.is top.has)

    refers : Refers machine.program kinds kind_of_string it.0
    refers = subst (λ (program : Linked). Refers program kinds kind_of_string it.0) call.own it.2
