-- Instructions on static fields name one, in a program of which no instruction lacks a member.
use Rattle.std.proofs.Common.{◌≡◌, ◌∙◌, ◌⊎◌, inl, inr, ap, refl, sym, subst, ℕ, ℤ, ◌==◌, Bool, true, false, not, List, ◌++◌, nat_lt, Option, Some, None, option_and_then, option_map, slice_get, if◌then◌else◌}
use Rattle.std.specs.Option.{option_or}
use Rattle.std.specs.List.{AllByRecursion, list_all, range_with_len}
use Rattle.std.proofs.lemmas.Bool.{cases_lt, eqb-true, false≢true}
use Rattle.std.proofs.lemmas.Option.{slice_get-map, slice_get_within}
use Rattle.cb_text.specs.declared.constant.Constant.{Constant}
use Rattle.cb_text.specs.Naming.{MemberNames, int_of, long_of, member_at, name_of_class, text_at, text_of_string}
use Rattle.cb_insn.specs.declared.insn.Insn.{Insn}
use Rattle.cb_insn.specs.declared.insn.Operand.{Operand}
use Rattle.cb_insn.specs.declared.insn.Operand.TheVariants as operands
use Rattle.cb_insn.specs.declared.opcode.TheConstants as opcodes
use Rattle.cb_classfile.specs.Class.{IsWellFormed}
use Rattle.cb_classfile.specs.Needed.{index_in, kind_needed}
use Rattle.cb_classfile.specs.declared.class.ClassFile.{ClassFile}
use Rattle.cb_classfile.specs.declared.needed.ConstantKind.TheVariants as needs
use Rattle.cb_hierarchy.specs.declared.member.Field.{Field as RankedField}
use Rattle.cb_kinds.specs.Texts.{number_of}
use Rattle.cb_link.specs.Having.{IsWhole}
use Rattle.cb_link.specs.Lacking.{first_lacking, lacks, lacks_member, suits, suits_field}
use Rattle.cb_link.specs.Named.{constant_named, field_named, member_named, or_nothing}
use Rattle.cb_link.specs.Numbers.{fields_of, ranked_fields}
use Rattle.cb_link.specs.Program.{Linked, linked_field}
use Rattle.cb_link.specs.Resolving.{found_field}
use Rattle.cb_link.specs.Slots.{basic_of_field, slot_of}
use Rattle.cb_link.specs.declared.linked.LinkedField.{LinkedField}
use Rattle.cb_link.specs.declared.named.Named.{Named}
use Rattle.cb_link.specs.declared.named.Named.TheVariants as meanings
use Rattle.cb_link.proofs.Laws.{static_slot}
use Rattle.cb_plain.specs.declared.value.Value.TheVariants as values
use Rattle.cb_shapes.specs.Control.{condition_of}
use Rattle.cb_shapes.specs.References.{by_constant, reference}
use Rattle.cb_shapes.specs.Shapes.{done_by}
use Rattle.cb_shapes.specs.declared.action.Action.{Action}
use Rattle.cb_shapes.specs.declared.action.Action.TheVariants as actions
use Rattle.cb_safety.specs.Ready.{NamesStatics, is_of_statics}
use Rattle.cb_safety.proofs.Assigned.{mapped, never}
use Rattle.cb_safety.proofs.Lacked.{IsFieldConstant, field_names, field_needed, lacks_none, member_names}
use Rattle.cb_safety.proofs.Lists.{all_at}
use Rattle.cb_safety.proofs.Located.{Located, constant_of, formed, located, named_located, stands_needed}
use Rattle.cb_safety.proofs.Makings.{high_done}
use Rattle.cb_safety.proofs.Resolved.{IsDeclared, declared}
use Rattle.cb_safety.proofs.Searching.{all_pass}
use Rattle.cb_safety.proofs.Spelled.{from_zero, split_if}

-- ---- by opcode and operand

abbrev is_static_of : Option Action → Bool
is_static_of None = false
is_static_of (Some action) = is_of_statics action

record AsksStatic (opcode : ℕ) (operand : Operand) : Type 0 where
  pub index : ℕ
  pub names : index_in operand ≡ Some index
  pub one : (opcode ≡ opcodes.GETSTATIC) ⊎ (opcode ≡ opcodes.PUTSTATIC)

abbrev silent_at : Operand → ℕ → Bool
silent_at operand opcode = not (is_static_of (done_by opcode operand))

all_silent : (operand : Operand) → list_all (silent_at operand) (range_with_len 0 opcodes.GETSTATIC) ≡ true
all_silent operands.Nothing = refl
all_silent other = refl

pass : (test : Bool) (one other : Option Action) (action : Action) → is_static_of one ≡ false → is_of_statics action ≡ true → (if test then one else other) ≡ Some action → other ≡ Some action
pass true one other action quiet is so = absurd (false≢true (sym quiet ∙ ap is_static_of so ∙ is))
pass false one other action quiet is so = so

by_reference : (opcode : ℕ) (operand : Operand) (action : Action) → is_of_statics action ≡ true → done_by opcode operand ≡ Some action → reference opcode operand ≡ Some action
by_reference opcode operand action is so = elim (cases_lt opcode opcodes.GETSTATIC) [
  | inl low ↦
      let silent : not (is_static_of (done_by opcode operand)) ≡ true =
      from_zero (λ (opcode : ℕ). silent_at operand opcode ≡ true) opcodes.GETSTATIC opcode (all_pass (silent_at operand) (range_with_len 0 opcodes.GETSTATIC) (all_silent operand)) low in
      absurd (false≢true (sym (ap (λ (found : Option Action). not (is_static_of found)) so ∙ ap not is) ∙ silent))
  | inr high ↦ go (nat_lt opcode opcodes.IFNULL) (sym (high_done opcode operand high) ∙ so)
]
  where
    go : (test : Bool) → (if test then reference opcode operand else option_map actions.Branch (condition_of opcode)) ≡ Some action → reference opcode operand ≡ Some action
    go true so = so
    go false so =
        mapped actions.Branch (condition_of opcode) action so
        (λ condition found same. absurd (false≢true (ap is_of_statics same ∙ is)))

by_static : (opcode index : ℕ) (action : Action) → is_of_statics action ≡ true → by_constant opcode index ≡ Some action → (opcode ≡ opcodes.GETSTATIC) ⊎ (opcode ≡ opcodes.PUTSTATIC)
by_static opcode index action is so = elim (split_if (opcode == opcodes.GETSTATIC) (Some (actions.GetStatic index)) _ action so) [
  | inl both ↦ inl (eqb-true opcode opcodes.GETSTATIC both.0)
  | inr other ↦ elim (split_if (opcode == opcodes.PUTSTATIC) (Some (actions.PutStatic index)) _ action other) [
    | inl both ↦ inr (eqb-true opcode opcodes.PUTSTATIC both.0)
    | inr more ↦
        never
        (pass (opcode == opcodes.INSTANCEOF) _ None action refl is
        (pass (opcode == opcodes.CHECKCAST) _ _ action refl is
        (pass (opcode == opcodes.ANEWARRAY) _ _ action refl is
        (pass (opcode == opcodes.NEW) _ _ action refl is
        (pass (opcode == opcodes.INVOKESTATIC) _ _ action refl is
        (pass (opcode == opcodes.INVOKESPECIAL) _ _ action refl is
        (pass (opcode == opcodes.INVOKEVIRTUAL) _ _ action refl is
        (pass (opcode == opcodes.PUTFIELD) _ _ action refl is
        (pass (opcode == opcodes.GETFIELD) _ _ action refl is more)))))))))
  ]
]

asks_by : (opcode : ℕ) (operand : Operand) (action : Action) → is_of_statics action ≡ true → reference opcode operand ≡ Some action → AsksStatic opcode operand
asks_by opcode (operands.Pool index) action is so = record { index = index; names = refl; one = by_static opcode index action is so }
asks_by opcode (operands.Interface index count) action is so = absurd (false≢true (ap is_static_of so ∙ is))
asks_by opcode (operands.ArrayCode code) action is so = absurd (false≢true (ap is_static_of so ∙ is))
asks_by opcode (operands.Dimensions index dimensions) action is so = absurd (false≢true (ap is_static_of so ∙ is))
asks_by opcode operands.Nothing action is so =
    never (pass (opcode == opcodes.ATHROW) (Some actions.Throw) None action refl is
    (pass (opcode == opcodes.ARRAYLENGTH) (Some actions.Length) (if opcode == opcodes.ATHROW then Some actions.Throw else None) action refl is so))
asks_by opcode other action is so = never so

needed : (opcode : ℕ) → (opcode ≡ opcodes.GETSTATIC) ⊎ (opcode ≡ opcodes.PUTSTATIC) → kind_needed opcode ≡ Some needs.Field
needed opcode (inl get) = ap kind_needed get
needed opcode (inr put) = ap kind_needed put

-- ---- the field that is found is static

record IsStaticFound (classes : List ClassFile) (member : MemberNames) : Type 0 where
  pub number : ℕ
  pub found : found_field classes member ≡ Some number
  pub field : RankedField
  pub there : slice_get (ranked_fields classes) number ≡ Some field
  pub static : field.is_static ≡ true

abbrev of_opcode : ℕ → Type 0
of_opcode opcode = (opcode ≡ opcodes.GETSTATIC) ⊎ (opcode ≡ opcodes.PUTSTATIC)

-- what is so at both opcodes
at_both : (P : ℕ → Type 0) (opcode : ℕ) → P opcodes.GETSTATIC → P opcodes.PUTSTATIC → of_opcode opcode → P opcode
at_both P opcode get put (inl is) = subst P (sym is) get
at_both P opcode get put (inr is) = subst P (sym is) put

if_none : {Item : Type 0} (test : Bool) (item : Item) → (if test then None else Some item) ≡ None → test ≡ true
if_none true item is = refl
if_none false item is = never (sym is)

lacks_member_none : (classes : List ClassFile) (class : ℕ) (pool : List Constant) (opcode : ℕ) (wide : Bool) (operand : Operand) → of_opcode opcode
    → lacks classes class pool (record { opcode = opcode; wide = wide; operand = operand }) ≡ None
    → lacks_member classes class opcode (option_and_then (member_at pool) (index_in operand)) ≡ None
lacks_member_none classes class pool opcode wide operand one =
    at_both (λ (opcode : ℕ). lacks classes class pool (record { opcode = opcode; wide = wide; operand = operand }) ≡ None
    → lacks_member classes class opcode (option_and_then (member_at pool) (index_in operand)) ≡ None) opcode (λ is. is) (λ is. is) one

suits_static : (classes : List ClassFile) (class opcode : ℕ) (member : MemberNames) → of_opcode opcode → suits classes class opcode member ≡ true
    → suits_field class opcode (option_and_then (slice_get (ranked_fields classes)) (found_field classes member)) ≡ true
suits_static classes class opcode member one =
    at_both (λ (opcode : ℕ). suits classes class opcode member ≡ true → suits_field class opcode (option_and_then (slice_get (ranked_fields classes)) (found_field classes member)) ≡ true)
    opcode (λ is. is) (λ is. is) one

static_is : (class opcode : ℕ) (field : RankedField) → of_opcode opcode → suits_field class opcode (Some field) ≡ true → field.is_static ≡ true
static_is class opcode field one = at_both (λ (opcode : ℕ). suits_field class opcode (Some field) ≡ true → field.is_static ≡ true) opcode (λ is. is) (λ is. is) one

found_static : (classes : List ClassFile) (member : MemberNames) (class opcode : ℕ) (found : Option ℕ) → found_field classes member ≡ found → of_opcode opcode
    → suits_field class opcode (option_and_then (slice_get (ranked_fields classes)) found) ≡ true → IsStaticFound classes member
found_static classes member class opcode None found one is = absurd (false≢true is)
found_static classes member class opcode (Some number) found one is = go (slice_get (ranked_fields classes) number) refl is where
  go : (field : Option RankedField) → slice_get (ranked_fields classes) number ≡ field → suits_field class opcode field ≡ true → IsStaticFound classes member
  go None there is = absurd (false≢true is)
  go (Some field) there is = record { number = number; found = found; field = field; there = there; static = static_is class opcode field one is }

static_found : (classes : List ClassFile) (class : ℕ) (pool : List Constant) (insn : Insn) (index : ℕ) (field : IsFieldConstant pool index) → of_opcode insn.opcode
    → index_in insn.operand ≡ Some index → lacks classes class pool insn ≡ None → IsStaticFound classes (field_names field.class.name field.name field.descriptor)
static_found classes class pool insn index field one is none =
    let member : MemberNames = field_names field.class.name field.name field.descriptor in
    found_static classes member class insn.opcode (found_field classes member) refl one
    (suits_static classes class insn.opcode member one
    (if_none (suits classes class insn.opcode member) (member.name ++ member.descriptor)
    (sym (ap (λ (found : Option ℕ). lacks_member classes class insn.opcode (option_and_then (member_at pool) found)) is
    ∙ ap (lacks_member classes class insn.opcode) (member_names pool index field))
    ∙ lacks_member_none classes class pool insn.opcode insn.wide insn.operand one none)))

-- ---- what the constant names

abbrev named_with : Linked → List Constant → Option Constant → Option MemberNames → Option Named
named_with program pool constant member =
    option_or (option_map (λ (number : ℤ). meanings.Whole (values.Int number)) (option_and_then int_of constant))
    (option_or (option_map (λ (number : ℤ). meanings.Whole (values.Long number)) (option_and_then long_of constant))
    (option_or (option_map meanings.Text (option_and_then (number_of program.constants) (option_and_then (text_at pool) (option_and_then text_of_string constant))))
    (option_or (option_map meanings.Kind (option_and_then (number_of program.kinds) (option_and_then (text_at pool) (option_and_then name_of_class constant))))
    (option_and_then (member_named program.classes) member))))

abbrev field_kind : List ClassFile → ℕ → Option RankedField → Named
field_kind classes number None = meanings.Nothing
field_kind classes number (Some field) =
    if field.is_static then meanings.Static field.declared.class (slot_of classes number) else meanings.Field field.declared.class (slot_of classes number)

named_static : (program : Linked) (pool : List Constant) (index : ℕ) (field : IsFieldConstant pool index) (found : IsStaticFound program.classes (field_names field.class.name field.name field.descriptor))
    → or_nothing (constant_named program.classes program.kinds program.constants pool index) ≡ meanings.Static found.field.declared.class (slot_of program.classes found.number)
named_static program pool index field found =
    ap (λ (constant : Option Constant). or_nothing (named_with program pool constant (member_at pool index))) field.constant
    ∙ ap (λ (member : Option MemberNames). or_nothing (option_and_then (member_named program.classes) member)) (member_names pool index field)
    ∙ ap (λ (found : Option ℕ). or_nothing (option_map (field_named program.classes) found)) found.found
    ∙ ap (field_kind program.classes found.number) found.there
    ∙ ap (λ (static : Bool). if static then meanings.Static found.field.declared.class (slot_of program.classes found.number) else meanings.Field found.field.declared.class (slot_of program.classes found.number)) found.static

-- ---- the instruction

pub names_static : (program : Linked) → IsWhole program → AllByRecursion IsWellFormed program.classes → first_lacking program.classes ≡ None → NamesStatics program
names_static program whole all none number pc method insn action so is_there acts is = record {
  class = found.field.declared.class;
  slot = slot_of program.classes found.number;
  basic = (linked_field program.kinds own.own).basic;
  names = named_located program number pc method insn asks.index at asks.names ∙ named_static program at.at.declaring.pool asks.index field found;
  low = slice_get_within program.classes found.field.declared.class own.at.declaring
      (ap (λ (field : RankedField). slice_get program.classes field.declared.class) (sym own.is) ∙ own.at.declares);
  declared = ap (option_and_then (basic_of_field program)) (static_slot program.classes found.number found.field found.there found.static)
      ∙ ap (λ (fields : List LinkedField). option_map (λ (field : LinkedField). field.basic) (slice_get fields found.number)) whole.fields
      ∙ ap (option_map (λ (field : LinkedField). field.basic)) (slice_get-map (linked_field program.kinds) (fields_of program.classes) found.number ∙ ap (option_map (linked_field program.kinds)) own.there);
}
  where
    at : Located program number pc method insn
    at = located program number pc method insn whole so is_there

    asks : AsksStatic insn.opcode insn.operand
    asks = asks_by insn.opcode insn.operand action is (by_reference insn.opcode insn.operand action is acts)

    field : IsFieldConstant at.at.declaring.pool asks.index
    field =
        field_needed at.at.declaring.pool asks.index (formed at.at.declaring (all_at IsWellFormed program.classes at.own.class at.at.declaring all at.at.declares)).indexed
        (stands_needed at.at.declaring.pool insn asks.index needs.Field asks.names (needed insn.opcode asks.one) (constant_of program number pc method insn at all))

    found : IsStaticFound program.classes (field_names field.class.name field.name field.descriptor)
    found = static_found program.classes at.own.class at.at.declaring.pool insn asks.index field asks.one asks.names (lacks_none program none number pc method insn at)

    own : IsDeclared program.classes found.number found.field
    own = declared program.classes found.number found.field found.there
