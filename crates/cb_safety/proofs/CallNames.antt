-- Instructions that call name a method, in a program of which no instruction lacks a member.
use Rattle.std.proofs.Common.{◌≡◌, ◌∙◌, ◌⊎◌, inl, inr, ap, refl, sym, subst, ℕ, ℤ, ◌<◌, ◌==◌, Bool, true, false, cond, not, ◌||◌, ◌&&◌, List, ◌++◌, is_none, nat_lt, Option, Some, None, option_and_then, option_map, slice_get, if◌then◌else◌}
use Rattle.std.specs.Prelude.{IsSomeAnd}
use Rattle.std.specs.Option.{option_or}
use Rattle.std.specs.List.{AllByRecursion, list_all, range_with_len}
use Rattle.std.proofs.lemmas.Bool.{cases_lt, eqb-true, false≢true, ltb-true}
use Rattle.std.proofs.lemmas.Option.{same_Some, slice_get-map}
use Rattle.cb_text.specs.declared.constant.Constant.{Constant}
use Rattle.cb_text.specs.declared.constant.Constant.TheVariants as constants
use Rattle.cb_text.specs.declared.naming.MemberKind.{MemberKind}
use Rattle.cb_text.specs.declared.naming.MemberKind.TheVariants as members
use Rattle.cb_text.specs.Naming.{MemberNames, int_of, long_of, member_at, member_from, member_of, name_and_type_at, name_of_class, text_at, text_of_string}
use Rattle.cb_text.specs.Pool.{HasIndices, constant_at}
use Rattle.cb_insn.specs.Forms.{form_of, head_form, wide_form_of}
use Rattle.cb_insn.specs.Grammar.{SpellsIn}
use Rattle.cb_insn.specs.declared.form.Form.{Form}
use Rattle.cb_insn.specs.declared.form.Form.TheVariants as forms
use Rattle.cb_insn.specs.declared.insn.Insn.{Insn}
use Rattle.cb_insn.specs.declared.insn.Operand.{Operand}
use Rattle.cb_insn.specs.declared.insn.Operand.TheVariants as operands
use Rattle.cb_insn.specs.declared.opcode.TheConstants as opcodes
use Rattle.cb_classfile.specs.Class.{IsWellFormed}
use Rattle.cb_classfile.specs.Needed.{StandsAt, index_in, is_of_kind, kind_needed}
use Rattle.cb_classfile.specs.declared.class.ClassFile.{ClassFile}
use Rattle.cb_classfile.specs.declared.method.Method.{Method}
use Rattle.cb_classfile.specs.declared.needed.ConstantKind.{ConstantKind}
use Rattle.cb_classfile.specs.declared.needed.ConstantKind.TheVariants as needs
use Rattle.cb_hierarchy.specs.declared.member.Method.{Method as RankedMethod}
use Rattle.cb_kinds.specs.Texts.{number_of}
use Rattle.cb_link.proofs.Laws.{placed}
use Rattle.cb_link.specs.Having.{IsWhole}
use Rattle.cb_link.specs.Lacking.{first_lacking, lacks, lacks_member, suits, suits_method}
use Rattle.cb_link.specs.Named.{code_at, constant_named, insn_in, member_named, named, or_nothing}
use Rattle.cb_link.specs.Numbers.{Numbered, class_number, methods_of, or_none, ranked_method, ranked_methods, same_name}
use Rattle.cb_link.specs.Places.{IsPlaced}
use Rattle.cb_link.specs.Program.{Linked}
use Rattle.cb_link.specs.Resolving.{found_method}
use Rattle.cb_link.specs.declared.named.Named.{Named}
use Rattle.cb_link.specs.declared.named.Named.TheVariants as meanings
use Rattle.cb_names.specs.Signs.{name_init}
use Rattle.cb_plain.specs.declared.value.Value.TheVariants as values
use Rattle.cb_shapes.specs.Control.{condition_of}
use Rattle.cb_shapes.specs.References.{by_constant, reference}
use Rattle.cb_shapes.specs.Shapes.{action_of, done_by}
use Rattle.cb_shapes.specs.declared.action.Action.{Action}
use Rattle.cb_shapes.specs.declared.action.Action.TheVariants as actions
use Rattle.cb_shapes.specs.declared.test.Condition.{Condition}
use Rattle.cb_verify.specs.Within.{Within, holder, kind_named, name_at, within}
use Rattle.cb_safety.specs.Advancing.{IsSpelled}
use Rattle.cb_safety.proofs.Assigned.{mapped, never}
use Rattle.cb_safety.proofs.Entries.{within_method}
use Rattle.cb_safety.proofs.Lacked.{class_kind, lacks_none, member_kind}
use Rattle.cb_safety.proofs.Lists.{all_at}
use Rattle.cb_safety.proofs.Located.{IsClassConstant, Located, constant_of, formed, has_indices, kind_located, located, named_located, stands_needed}
use Rattle.cb_safety.proofs.Opcodes.{behind, first_reference, none_some}
use Rattle.cb_safety.proofs.Searching.{all_pass}
use Rattle.cb_safety.proofs.Spelled.{IsInsn, from_zero, insn_spelled}

-- ---- by opcode and operand

-- the opcode of a call, and the index in it
abbrev pub call_of : Action → Option (ℕ × ℕ)
call_of (actions.InvokeStatic index) = Some (opcodes.INVOKESTATIC, index)
call_of (actions.InvokeSpecial index) = Some (opcodes.INVOKESPECIAL, index)
call_of (actions.InvokeVirtual index) = Some (opcodes.INVOKEVIRTUAL, index)
call_of (actions.InvokeInterface index count) = Some (opcodes.INVOKEINTERFACE, index)
call_of other = None

abbrev no_call : Operand → ℕ → Bool
no_call operand opcode = is_none (option_and_then call_of (done_by opcode operand))

none_called : (operand : Operand) → list_all (no_call operand) (range_with_len 0 first_reference) ≡ true
none_called operands.Nothing = refl
none_called other = refl

record AsksCall (opcode : ℕ) (operand : Operand) (call : ℕ × ℕ) : Type 0 where
  pub names : index_in operand ≡ Some call.1
  pub one : opcode ≡ call.0

called_by : (opcode own index : ℕ) (operand : Operand) (call : ℕ × ℕ) → index_in operand ≡ Some index → opcode ≡ own → Some (own, index) ≡ Some call → AsksCall opcode operand call
called_by opcode own index operand call has is so =
    let same : (own, index) ≡ call = same_Some (own, index) call so in
    record { names = has ∙ ap (λ (call : ℕ × ℕ). Some call.1) same; one = is ∙ ap (λ (call : ℕ × ℕ). call.0) same }

call_by_constant : (opcode own : ℕ) (call : ℕ × ℕ) → option_and_then call_of (by_constant opcode own) ≡ Some call → AsksCall opcode (operands.Pool own) call
call_by_constant opcode own call so =
    go (opcode == opcodes.GETSTATIC) (opcode == opcodes.PUTSTATIC) (opcode == opcodes.GETFIELD) (opcode == opcodes.PUTFIELD) (opcode == opcodes.INVOKEVIRTUAL)
    (opcode == opcodes.INVOKESPECIAL) (opcode == opcodes.INVOKESTATIC) (opcode == opcodes.NEW) (opcode == opcodes.ANEWARRAY) (opcode == opcodes.CHECKCAST) (opcode == opcodes.INSTANCEOF)
    refl refl refl so
  where
    go : (a b c d e f g h i j k : Bool) → (opcode == opcodes.INVOKEVIRTUAL) ≡ e → (opcode == opcodes.INVOKESPECIAL) ≡ f → (opcode == opcodes.INVOKESTATIC) ≡ g
        → option_and_then call_of (cond a (Some (actions.GetStatic own)) (cond b (Some (actions.PutStatic own)) (cond c (Some (actions.GetField own)) (cond d (Some (actions.PutField own))
        (cond e (Some (actions.InvokeVirtual own)) (cond f (Some (actions.InvokeSpecial own)) (cond g (Some (actions.InvokeStatic own)) (cond h (Some (actions.New own))
        (cond i (Some (actions.NewReferences own)) (cond j (Some (actions.Cast own)) (cond k (Some (actions.IsInstance own)) None))))))))))) ≡ Some call
        → AsksCall opcode (operands.Pool own) call
    go true b c d e f g h i j k virtual special static so = never so
    go false true c d e f g h i j k virtual special static so = never so
    go false false true d e f g h i j k virtual special static so = never so
    go false false false true e f g h i j k virtual special static so = never so
    go false false false false true f g h i j k virtual special static so =
        called_by opcode opcodes.INVOKEVIRTUAL own (operands.Pool own) call refl (eqb-true opcode opcodes.INVOKEVIRTUAL virtual) so
    go false false false false false true g h i j k virtual special static so =
        called_by opcode opcodes.INVOKESPECIAL own (operands.Pool own) call refl (eqb-true opcode opcodes.INVOKESPECIAL special) so
    go false false false false false false true h i j k virtual special static so =
        called_by opcode opcodes.INVOKESTATIC own (operands.Pool own) call refl (eqb-true opcode opcodes.INVOKESTATIC static) so
    go false false false false false false false true i j k virtual special static so = never so
    go false false false false false false false false true j k virtual special static so = never so
    go false false false false false false false false false true k virtual special static so = never so
    go false false false false false false false false false false true virtual special static so = never so
    go false false false false false false false false false false false virtual special static so = never so

call_without : (opcode : ℕ) (call : ℕ × ℕ) (array throw : Bool) → option_and_then call_of (cond array (Some actions.Length) (cond throw (Some actions.Throw) None)) ≡ Some call → ⊥
call_without opcode call true throw so = never so
call_without opcode call false true so = never so
call_without opcode call false false so = never so

-- an operand with a count stands behind one opcode
abbrev counts : Option Form → Bool
counts (Some forms.Interface) = true
counts other = false

abbrev counts_at : ℕ → Bool
counts_at opcode = (not (counts (form_of opcode)) || (opcode == opcodes.INVOKEINTERFACE)) && not (counts (wide_form_of opcode))

all_count : list_all counts_at (range_with_len 0 opcodes.IFNULL) ≡ true
all_count = refl

counted : (pc : ℕ) (form : Option Form) (index count : ℕ) (bytes : List ℕ) → SpellsIn pc form (operands.Interface index count) bytes → counts form ≡ true
counted pc None index count bytes spelled = absurd spelled
counted pc (Some forms.Interface) index count bytes spelled = refl
counted pc (Some form) index count bytes spelled = absurd spelled

counted_one : (counts is wide : Bool) → ((not counts || is) && not wide) ≡ true → counts ≡ true → is ≡ true
counted_one false is wide so counts = absurd (false≢true counts)
counted_one true true wide so counts = refl
counted_one true false wide so counts = absurd (false≢true so)

counted_wide : (one wide : Bool) → (one && not wide) ≡ true → wide ≡ true → ⊥
counted_wide false wide so is = false≢true so
counted_wide true true so is = false≢true so
counted_wide true false so is = false≢true is

counted_opcode : (wide : Bool) (opcode : ℕ) → opcode < opcodes.IFNULL → counts (head_form wide opcode) ≡ true → opcode ≡ opcodes.INVOKEINTERFACE
counted_opcode wide opcode low is = go wide is where
  so : counts_at opcode ≡ true
  so = from_zero (λ (opcode : ℕ). counts_at opcode ≡ true) opcodes.IFNULL opcode (all_pass counts_at (range_with_len 0 opcodes.IFNULL) all_count) low

  go : (wide : Bool) → counts (head_form wide opcode) ≡ true → opcode ≡ opcodes.INVOKEINTERFACE
  go false is =
      eqb-true opcode opcodes.INVOKEINTERFACE
      (counted_one (counts (form_of opcode)) (opcode == opcodes.INVOKEINTERFACE) (counts (wide_form_of opcode)) so is)
  go true is = absurd (counted_wide (not (counts (form_of opcode)) || (opcode == opcodes.INVOKEINTERFACE)) (counts (wide_form_of opcode)) so is)

call_by_reference : (place : ℕ) (wide : Bool) (opcode : ℕ) (operand : Operand) (call : ℕ × ℕ) (bytes : List ℕ) → opcode < opcodes.IFNULL → SpellsIn place (head_form wide opcode) operand bytes
    → option_and_then call_of (reference opcode operand) ≡ Some call → AsksCall opcode operand call
call_by_reference place wide opcode (operands.Pool own) call bytes low spelled so = call_by_constant opcode own call so
call_by_reference place wide opcode (operands.Interface index count) call bytes low spelled so =
    called_by opcode opcodes.INVOKEINTERFACE index (operands.Interface index count) call refl
    (counted_opcode wide opcode low (counted place (head_form wide opcode) index count bytes spelled)) so
call_by_reference place wide opcode operands.Nothing call bytes low spelled so = absurd (call_without opcode call (opcode == opcodes.ARRAYLENGTH) (opcode == opcodes.ATHROW) so)
call_by_reference place wide opcode other call bytes low spelled so = never so

call_branch : (call : ℕ × ℕ) (found : Option Condition) → option_and_then call_of (option_map actions.Branch found) ≡ Some call → ⊥
call_branch call None so = never so
call_branch call (Some condition) so = never so

call_behind : (insn : Insn) (call : ℕ × ℕ) (low : Bool) → nat_lt insn.opcode opcodes.IFNULL ≡ low → IsInsn insn
    → option_and_then call_of (if low then reference insn.opcode insn.operand else option_map actions.Branch (condition_of insn.opcode)) ≡ Some call → AsksCall insn.opcode insn.operand call
call_behind insn call true low found so = call_by_reference found.0 insn.wide insn.opcode insn.operand call found.2.0 (ltb-true insn.opcode opcodes.IFNULL low) found.2.2 so
call_behind insn call false low found so = absurd (call_branch call (condition_of insn.opcode) so)

asks_call : (insn : Insn) (action : Action) (call : ℕ × ℕ) → IsInsn insn → action_of insn ≡ Some action → call_of action ≡ Some call → AsksCall insn.opcode insn.operand call
asks_call insn action call found is asks = elim (cases_lt insn.opcode first_reference) [
  | inl low ↦ none_some (option_and_then call_of (action_of insn)) call
      (from_zero (λ (opcode : ℕ). no_call insn.operand opcode ≡ true) first_reference insn.opcode (all_pass (no_call insn.operand) (range_with_len 0 first_reference) (none_called insn.operand)) low) so
  | inr high ↦ call_behind insn call (nat_lt insn.opcode opcodes.IFNULL) refl found (sym (ap (option_and_then call_of) (behind insn.opcode insn.operand high)) ∙ so)
]
  where
    so : option_and_then call_of (action_of insn) ≡ Some call
    so = ap (option_and_then call_of) is ∙ asks

-- ---- what is so at each of these opcodes

abbrev IsCall : ℕ → Type 0
IsCall opcode = (opcode ≡ opcodes.INVOKESTATIC) ⊎ ((opcode ≡ opcodes.INVOKESPECIAL) ⊎ ((opcode ≡ opcodes.INVOKEVIRTUAL) ⊎ (opcode ≡ opcodes.INVOKEINTERFACE)))

at_each : (P : ℕ → Type 0) (opcode : ℕ) → P opcodes.INVOKESTATIC → P opcodes.INVOKESPECIAL → P opcodes.INVOKEVIRTUAL → P opcodes.INVOKEINTERFACE → IsCall opcode → P opcode
at_each P opcode static special virtual interface (inl is) = subst P (sym is) static
at_each P opcode static special virtual interface (inr (inl is)) = subst P (sym is) special
at_each P opcode static special virtual interface (inr (inr (inl is))) = subst P (sym is) virtual
at_each P opcode static special virtual interface (inr (inr (inr is))) = subst P (sym is) interface

one_of_calls : (own index : ℕ) (call : ℕ × ℕ) → IsCall own → Some (own, index) ≡ Some call → IsCall call.0
one_of_calls own index call is so = subst (λ (call : ℕ × ℕ). IsCall call.0) (same_Some (own, index) call so) is

is_call : (action : Action) (call : ℕ × ℕ) → call_of action ≡ Some call → IsCall call.0
is_call (actions.InvokeStatic index) call so = one_of_calls opcodes.INVOKESTATIC index call (inl refl) so
is_call (actions.InvokeSpecial index) call so = one_of_calls opcodes.INVOKESPECIAL index call (inr (inl refl)) so
is_call (actions.InvokeVirtual index) call so = one_of_calls opcodes.INVOKEVIRTUAL index call (inr (inr (inl refl))) so
is_call (actions.InvokeInterface index count) call so = one_of_calls opcodes.INVOKEINTERFACE index call (inr (inr (inr refl))) so
is_call other call so = never so

-- the kinds of constants that they name
abbrev names_methods : ConstantKind → Bool
names_methods needs.ClassMethod = true
names_methods needs.AnyMethod = true
names_methods needs.InterfaceMethod = true
names_methods other = false

record Needs (opcode : ℕ) : Type 0 where
  pub kind : ConstantKind
  pub is : kind_needed opcode ≡ Some kind
  pub methods : names_methods kind ≡ true

needed : (opcode : ℕ) → IsCall opcode → Needs opcode
needed opcode one =
    at_each Needs opcode (record { kind = needs.AnyMethod; is = refl; methods = refl }) (record { kind = needs.AnyMethod; is = refl; methods = refl })
    (record { kind = needs.ClassMethod; is = refl; methods = refl }) (record { kind = needs.InterfaceMethod; is = refl; methods = refl }) one

-- ---- the method that a constant names

abbrev pub names_of : MemberKind → List ℕ → List ℕ → List ℕ → MemberNames
names_of kind class name descriptor = record { kind = kind; class = class; name = name; descriptor = descriptor }

-- a constant that is no other than a method's
pub record IsAlone (constant : Constant) : Type 0 where
  pub no_int : int_of constant ≡ None
  pub no_long : long_of constant ≡ None
  pub no_text : text_of_string constant ≡ None
  pub no_class : name_of_class constant ≡ None

pub record IsMethodConstant (pool : List Constant) (index : ℕ) : Type 0 where
  pub kind : MemberKind
  pub holder : ℕ
  pub named : ℕ
  pub constant : Constant
  pub there : constant_at pool index ≡ Some constant
  pub is : member_of constant ≡ Some (kind, holder, named)
  pub alone : IsAlone constant
  pub method : (classes : List ClassFile) (class name descriptor : List ℕ)
      → member_named classes (names_of kind class name descriptor) ≡ option_map meanings.Method (found_method classes (names_of kind class name descriptor))
  pub class : IsClassConstant pool holder
  pub name : List ℕ
  pub descriptor : List ℕ
  pub names : name_and_type_at pool named ≡ Some (name, descriptor)

method_needed : (pool : List Constant) (index : ℕ) (kind : ConstantKind) → AllByRecursion (HasIndices pool) pool → names_methods kind ≡ true → StandsAt pool index kind
    → IsMethodConstant pool index
method_needed pool index kind all methods stands = go kind (constant_at pool index) refl methods stands where
  of_class : (holder named : ℕ) → constant_at pool index ≡ Some (constants.Methodref holder named) → IsMethodConstant pool index
  of_class holder named there =
      let indices = has_indices pool index (constants.Methodref holder named) all there in
      let (name, rest) = member_kind pool named all indices.1 in
      record {
        kind = members.Method;
        holder = holder;
        named = named;
        constant = constants.Methodref holder named;
        there = there;
        is = refl;
        alone = record { no_int = refl; no_long = refl; no_text = refl; no_class = refl };
        method = λ classes class name descriptor. refl;
        class = class_kind pool holder all indices.0;
        name = name;
        descriptor = rest.0;
        names = rest.1;
      }

  of_interface : (holder named : ℕ) → constant_at pool index ≡ Some (constants.InterfaceMethodref holder named) → IsMethodConstant pool index
  of_interface holder named there =
      let indices = has_indices pool index (constants.InterfaceMethodref holder named) all there in
      let (name, rest) = member_kind pool named all indices.1 in
      record {
        kind = members.InterfaceMethod;
        holder = holder;
        named = named;
        constant = constants.InterfaceMethodref holder named;
        there = there;
        is = refl;
        alone = record { no_int = refl; no_long = refl; no_text = refl; no_class = refl };
        method = λ classes class name descriptor. refl;
        class = class_kind pool holder all indices.0;
        name = name;
        descriptor = rest.0;
        names = rest.1;
      }

  go : (kind : ConstantKind) (found : Option Constant) → constant_at pool index ≡ found → names_methods kind ≡ true → IsSomeAnd found (λ constant. is_of_kind kind constant ≡ true)
      → IsMethodConstant pool index
  go kind None there methods is = absurd is
  go needs.ClassMethod (Some (constants.Methodref holder named)) there methods is = of_class holder named there
  go needs.ClassMethod (Some other) there methods is = absurd (false≢true is)
  go needs.AnyMethod (Some (constants.Methodref holder named)) there methods is = of_class holder named there
  go needs.AnyMethod (Some (constants.InterfaceMethodref holder named)) there methods is = of_interface holder named there
  go needs.AnyMethod (Some other) there methods is = absurd (false≢true is)
  go needs.InterfaceMethod (Some (constants.InterfaceMethodref holder named)) there methods is = of_interface holder named there
  go needs.InterfaceMethod (Some other) there methods is = absurd (false≢true is)
  go other (Some constant) there methods is = absurd (false≢true methods)

abbrev member_in : (pool : List Constant) (index : ℕ) → IsMethodConstant pool index → MemberNames
member_in pool index constant = names_of constant.kind constant.class.name constant.name constant.descriptor

pub member_names : (pool : List Constant) (index : ℕ) (constant : IsMethodConstant pool index) → member_at pool index ≡ Some (member_in pool index constant)
member_names pool index constant =
    ap (λ (found : Option Constant). option_and_then (member_from pool) (option_and_then member_of found)) constant.there
    ∙ ap (option_and_then (member_from pool)) constant.is
    ∙ ap (option_and_then (λ (class : List ℕ). option_map (λ (names : List ℕ × List ℕ). names_of constant.kind class names.0 names.1) (name_and_type_at pool constant.named))) constant.class.text
    ∙ ap (option_map (λ (names : List ℕ × List ℕ). names_of constant.kind constant.class.name names.0 names.1)) constant.names

-- ---- the method that is found

pub record IsCallee (classes : List ClassFile) (opcode : ℕ) (member : MemberNames) : Type 0 where
  pub number : ℕ
  pub found : found_method classes member ≡ Some number
  pub method : RankedMethod
  pub there : slice_get (ranked_methods classes) number ≡ Some method
  pub suits : suits_method opcode (class_number classes member.class) (same_name member.name name_init) (Some method) ≡ true

if_none : {Item : Type 0} (test : Bool) (item : Item) → (if test then None else Some item) ≡ None → test ≡ true
if_none true item is = refl
if_none false item is = never (sym is)

lacks_member_none : (classes : List ClassFile) (class : ℕ) (pool : List Constant) (opcode : ℕ) (wide : Bool) (operand : Operand) → IsCall opcode
    → lacks classes class pool (record { opcode = opcode; wide = wide; operand = operand }) ≡ None
    → lacks_member classes class opcode (option_and_then (member_at pool) (index_in operand)) ≡ None
lacks_member_none classes class pool opcode wide operand one =
    at_each (λ (opcode : ℕ). lacks classes class pool (record { opcode = opcode; wide = wide; operand = operand }) ≡ None
    → lacks_member classes class opcode (option_and_then (member_at pool) (index_in operand)) ≡ None) opcode (λ is. is) (λ is. is) (λ is. is) (λ is. is) one

suits_call : (classes : List ClassFile) (class opcode : ℕ) (member : MemberNames) → IsCall opcode → suits classes class opcode member ≡ true
    → suits_method opcode (class_number classes member.class) (same_name member.name name_init)
    (option_and_then (slice_get (ranked_methods classes)) (found_method classes member)) ≡ true
suits_call classes class opcode member one =
    at_each (λ (opcode : ℕ). suits classes class opcode member ≡ true
    → suits_method opcode (class_number classes member.class) (same_name member.name name_init)
    (option_and_then (slice_get (ranked_methods classes)) (found_method classes member)) ≡ true) opcode (λ is. is) (λ is. is) (λ is. is) (λ is. is) one

found_callee : (classes : List ClassFile) (member : MemberNames) (opcode : ℕ) (found : Option ℕ) → found_method classes member ≡ found
    → suits_method opcode (class_number classes member.class) (same_name member.name name_init) (option_and_then (slice_get (ranked_methods classes)) found) ≡ true
    → IsCallee classes opcode member
found_callee classes member opcode None found is = absurd (false≢true is)
found_callee classes member opcode (Some number) found is = go (slice_get (ranked_methods classes) number) refl is where
  go : (method : Option RankedMethod) → slice_get (ranked_methods classes) number ≡ method
      → suits_method opcode (class_number classes member.class) (same_name member.name name_init) method ≡ true → IsCallee classes opcode member
  go None there is = absurd (false≢true is)
  go (Some method) there is = record { number = number; found = found; method = method; there = there; suits = is }

callee_found : (classes : List ClassFile) (class : ℕ) (pool : List Constant) (insn : Insn) (index : ℕ) (constant : IsMethodConstant pool index) → IsCall insn.opcode
    → index_in insn.operand ≡ Some index → lacks classes class pool insn ≡ None → IsCallee classes insn.opcode (member_in pool index constant)
callee_found classes class pool insn index constant one is none =
    let member : MemberNames = member_in pool index constant in
    found_callee classes member insn.opcode (found_method classes member) refl
    (suits_call classes class insn.opcode member one
    (if_none (suits classes class insn.opcode member) (member.name ++ member.descriptor)
    (sym (ap (λ (found : Option ℕ). lacks_member classes class insn.opcode (option_and_then (member_at pool) found)) is
    ∙ ap (lacks_member classes class insn.opcode) (member_names pool index constant))
    ∙ lacks_member_none classes class pool insn.opcode insn.wide insn.operand one none)))

-- ---- what the constant names

abbrev named_with : Linked → List Constant → Option ℤ → Option ℤ → Option ℕ → Option ℕ → Option MemberNames → Option Named
named_with program pool int long text class member =
    option_or (option_map (λ (number : ℤ). meanings.Whole (values.Int number)) int)
    (option_or (option_map (λ (number : ℤ). meanings.Whole (values.Long number)) long)
    (option_or (option_map meanings.Text (option_and_then (number_of program.constants) (option_and_then (text_at pool) text)))
    (option_or (option_map meanings.Kind (option_and_then (number_of program.kinds) (option_and_then (text_at pool) class)))
    (option_and_then (member_named program.classes) member))))

named_method : (program : Linked) (pool : List Constant) (index number : ℕ) (constant : IsMethodConstant pool index)
    → found_method program.classes (member_in pool index constant) ≡ Some number
    → or_nothing (constant_named program.classes program.kinds program.constants pool index) ≡ meanings.Method number
named_method program pool index number constant found =
    ap (λ (found : Option Constant). or_nothing (named_with program pool (option_and_then int_of found) (option_and_then long_of found) (option_and_then text_of_string found)
    (option_and_then name_of_class found) (member_at pool index))) constant.there
    ∙ ap (λ (int : Option ℤ). or_nothing (named_with program pool int (long_of constant.constant) (text_of_string constant.constant) (name_of_class constant.constant) (member_at pool index))) constant.alone.no_int
    ∙ ap (λ (long : Option ℤ). or_nothing (named_with program pool None long (text_of_string constant.constant) (name_of_class constant.constant) (member_at pool index))) constant.alone.no_long
    ∙ ap (λ (text : Option ℕ). or_nothing (named_with program pool None None text (name_of_class constant.constant) (member_at pool index))) constant.alone.no_text
    ∙ ap (λ (class : Option ℕ). or_nothing (named_with program pool None None None class (member_at pool index))) constant.alone.no_class
    ∙ ap (λ (member : Option MemberNames). or_nothing (option_and_then (member_named program.classes) member)) (member_names pool index constant)
    ∙ ap or_nothing (constant.method program.classes constant.class.name constant.name constant.descriptor)
    ∙ ap (λ (found : Option ℕ). or_nothing (option_map meanings.Method found)) found

-- ---- a method by its number, as hierarchies see it

pub record IsDeclared (classes : List ClassFile) (number : ℕ) (method : RankedMethod) : Type 0 where
  pub own : Numbered Method
  pub there : slice_get (methods_of classes) number ≡ Some own
  pub is : ranked_method classes own ≡ method
  pub at : IsPlaced (λ (class : ClassFile). class.methods) classes own

pub declared : (classes : List ClassFile) (number : ℕ) (method : RankedMethod) → slice_get (ranked_methods classes) number ≡ Some method → IsDeclared classes number method
declared classes number method there =
    mapped (ranked_method classes) (slice_get (methods_of classes) number) method (sym (slice_get-map (ranked_method classes) (methods_of classes) number) ∙ there)
    (λ own found same. record { own = own; there = found; is = same; at = placed (λ (class : ClassFile). class.methods) classes number own found })

-- ---- the instruction

-- what an instruction with an index names: a method of a class, in the program's and in the verifier's terms
pub record NamesMethod (program : Linked) (caller pc opcode index : ℕ) (method : Within) : Type 0 where
  pub calling : Numbered Method
  pub calls : slice_get (methods_of program.classes) caller ≡ Some calling
  pub member : MemberNames
  pub constant : member_at calling.pool index ≡ Some member
  pub name : name_at method index ≡ member.name
  pub holder : holder method index ≡ number_of program.kinds member.class
  pub callee : IsCallee program.classes opcode member
  pub names : named program caller pc ≡ meanings.Method callee.number
  pub declared : IsDeclared program.classes callee.number callee.method

abbrev name_with : List Constant → MemberKind × ℕ × ℕ → Option (List ℕ)
name_with pool named = option_map (λ (names : List ℕ × List ℕ). names.0) (name_and_type_at pool named.2)

abbrev name_by : ℕ → Option ClassFile → List ℕ
name_by index class = or_none (option_and_then (λ (class : ClassFile). option_and_then (name_with class.pool) (option_and_then member_of (constant_at class.pool index))) class)

module _ (program : Linked) (number pc index : ℕ) (method : Within) (insn : Insn) (at : Located program number pc method insn) (so : within program number ≡ Some method)
    (constant : IsMethodConstant at.at.declaring.pool index) where
  name_located : name_at method index ≡ constant.name
  name_located =
      ap (λ (program : Linked). name_by index (slice_get program.classes method.class)) (within_method program number method so).own
      ∙ ap (λ (class : ℕ). name_by index (slice_get program.classes class)) at.class
      ∙ ap (name_by index) at.at.declares
      ∙ ap (λ (found : Option Constant). or_none (option_and_then (name_with at.at.declaring.pool) (option_and_then member_of found))) constant.there
      ∙ ap (λ (found : Option (MemberKind × ℕ × ℕ)). or_none (option_and_then (name_with at.at.declaring.pool) found)) constant.is
      ∙ ap (λ (names : Option (List ℕ × List ℕ)). or_none (option_map (λ (names : List ℕ × List ℕ). names.0) names)) constant.names

  holder_located : holder method index ≡ number_of program.kinds constant.class.name
  holder_located =
      ap (λ (found : Option Constant). option_and_then (λ (named : MemberKind × ℕ × ℕ). kind_named method named.1) (option_and_then member_of found))
      (ap (λ (program : Linked). option_and_then (λ (declaring : ClassFile). constant_at declaring.pool index) (slice_get program.classes method.class)) (within_method program number method so).own
      ∙ ap (λ (class : ℕ). option_and_then (λ (declaring : ClassFile). constant_at declaring.pool index) (slice_get program.classes class)) at.class
      ∙ ap (option_and_then (λ (declaring : ClassFile). constant_at declaring.pool index)) at.at.declares ∙ constant.there)
      ∙ ap (option_and_then (λ (named : MemberKind × ℕ × ℕ). kind_named method named.1)) constant.is
      ∙ kind_located program number pc method insn constant.holder at so ∙ ap (option_and_then (number_of program.kinds)) constant.class.text

pub names_method : (program : Linked) → IsWhole program → AllByRecursion IsWellFormed program.classes → first_lacking program.classes ≡ None → IsSpelled program
    → (number pc : ℕ) (method : Within) (insn : Insn) (action : Action) (call : ℕ × ℕ) → within program number ≡ Some method
    → insn_in (code_at program number) pc ≡ Some insn → action_of insn ≡ Some action → call_of action ≡ Some call → NamesMethod program number pc call.0 call.1 method
names_method program whole all none spelled number pc method insn action call so is_there acts is = record {
  calling = at.own;
  calls = at.there;
  member = member_in at.at.declaring.pool call.1 constant;
  constant = ap (λ (pool : List Constant). member_at pool call.1) at.at.of_pool ∙ member_names at.at.declaring.pool call.1 constant;
  name = name_located program number pc call.1 method insn at so constant;
  holder = holder_located program number pc call.1 method insn at so constant;
  callee = callee;
  names = named_located program number pc method insn call.1 at asks.names ∙ named_method program at.at.declaring.pool call.1 callee.number constant callee.found;
  declared = declared program.classes callee.number callee.method callee.there;
}
  where
    at : Located program number pc method insn
    at = located program number pc method insn whole so is_there

    asks : AsksCall insn.opcode insn.operand call
    asks = asks_call insn action call (insn_spelled program number pc insn spelled is_there) acts is

    one : IsCall insn.opcode
    one = subst IsCall (sym asks.one) (is_call action call is)

    kind : Needs insn.opcode
    kind = needed insn.opcode one

    constant : IsMethodConstant at.at.declaring.pool call.1
    constant =
        method_needed at.at.declaring.pool call.1 kind.kind (formed at.at.declaring (all_at IsWellFormed program.classes at.own.class at.at.declaring all at.at.declares)).indexed kind.methods
        (stands_needed at.at.declaring.pool insn call.1 kind.kind asks.names kind.is (constant_of program number pc method insn at all))

    callee : IsCallee program.classes call.0 (member_in at.at.declaring.pool call.1 constant)
    callee =
        subst (λ (opcode : ℕ). IsCallee program.classes opcode (member_in at.at.declaring.pool call.1 constant)) asks.one
        (callee_found program.classes at.own.class at.at.declaring.pool insn call.1 constant one asks.names (lacks_none program none number pc method insn at))
