-- Instructions on fields of objects name one, which each object has that may be held as the kind of which they name it.
use Rattle.std.proofs.Common.{◌≡◌, ◌∙◌, ap, ap₂, refl, sym, subst, ℕ, ℤ, Bool, true, false, cond, ◌&&◌, List, [], ◌∷◌, ◌++◌, get_or, length, nat_lt, Option, Some, None, option_and_then, option_map, slice_get, if◌then◌else◌}
use Rattle.std.specs.Option.{option_or}
use Rattle.std.specs.List.{AllByRecursion}
use Rattle.std.proofs.lemmas.Bool.{and_parts, ltb-true}
use Rattle.std.proofs.lemmas.Option.{same_Some, slice_get-get_or, slice_get-map}
use Rattle.cb_text.specs.declared.constant.Constant.{Constant}
use Rattle.cb_text.specs.Naming.{MemberNames, int_of, long_of, member_at, member_of, name_of_class, text_at, text_of_string}
use Rattle.cb_text.specs.Pool.{constant_at}
use Rattle.cb_insn.specs.declared.insn.Insn.{Insn}
use Rattle.cb_classfile.specs.declared.class.ClassFile.{ClassFile}
use Rattle.cb_classfile.specs.Class.{IsWellFormed}
use Rattle.cb_classfile.specs.Library.{AreLibrary, SaysField}
use Rattle.cb_classfile.specs.declared.needed.ConstantKind.TheVariants as needs
use Rattle.cb_hierarchy.specs.Orders.{is_subclass}
use Rattle.cb_hierarchy.specs.declared.member.Field.{Field as RankedField}
use Rattle.cb_kinds.proofs.Laws.{text_at as text_numbered}
use Rattle.cb_kinds.specs.Basics.{basic_of, component_of}
use Rattle.cb_kinds.specs.Kinds.{is_array, type_of_name}
use Rattle.cb_kinds.specs.Texts.{number_of}
use Rattle.cb_kinds.specs.declared.basic.Basic.{Basic}
use Rattle.cb_link.specs.Having.{IsWhole}
use Rattle.cb_link.specs.Lacking.{first_lacking}
use Rattle.cb_link.specs.Named.{code_at, constant_named, field_named, insn_in, member_named, or_nothing}
use Rattle.cb_link.specs.Numbers.{class_number, fields_of, hierarchy, or_none, ranked_fields}
use Rattle.cb_link.specs.Program.{Linked, linked_field}
use Rattle.cb_link.specs.Slots.{basic_of_field, slot_of}
use Rattle.cb_link.specs.Subtypes.{type_of_kind}
use Rattle.cb_link.specs.declared.linked.LinkedField.{LinkedField}
use Rattle.cb_link.specs.declared.named.Named.{Named}
use Rattle.cb_link.specs.declared.named.Named.TheVariants as meanings
use Rattle.cb_names.specs.Signs.{letter_class, semicolon}
use Rattle.cb_plain.specs.declared.value.Value.TheVariants as values
use Rattle.cb_shapes.specs.Shapes.{action_of}
use Rattle.cb_shapes.specs.declared.action.Action.{Action}
use Rattle.cb_verify.specs.Within.{Within, constant, holder, kind_named, within}
use Rattle.cb_safety.specs.Kinds.{holds_kind, is_held_as}
use Rattle.cb_safety.specs.Naming.{HasField, NamesField, NamesFields, field_index}
use Rattle.cb_safety.specs.Order.{ExtendsObject}
use Rattle.cb_safety.proofs.Clean.{kind_clean}
use Rattle.cb_safety.proofs.Entries.{within_method}
use Rattle.cb_safety.proofs.Lacked.{IsFieldConstant, IsFound, field_found, field_names, field_needed, lacks_none, member_names}
use Rattle.cb_safety.proofs.Lists.{all_at}
use Rattle.cb_safety.proofs.Located.{Located, constant_of, formed, kind_located, located, named_located, stands_needed}
use Rattle.cb_safety.proofs.Opcodes.{AsksField, asks_field, field_kind_needed}
use Rattle.cb_safety.proofs.Ordered.{IsFronted, formed_extends, fronted_by, none_zipped, number_within}
use Rattle.cb_safety.proofs.Resolved.{IsDeclared, IsResolved, declared, held_class, own_slot, plain_class, resolved, slot_there}
use Rattle.cb_safety.proofs.Searching.{all_weaker}

-- ---- the constant

abbrev named_with : Linked → List Constant → Option Constant → Option MemberNames → Option Named
named_with program pool constant member =
    option_or (option_map (λ (number : ℤ). meanings.Whole (values.Int number)) (option_and_then int_of constant))
    (option_or (option_map (λ (number : ℤ). meanings.Whole (values.Long number)) (option_and_then long_of constant))
    (option_or (option_map meanings.Text (option_and_then (number_of program.constants) (option_and_then (text_at pool) (option_and_then text_of_string constant))))
    (option_or (option_map meanings.Kind (option_and_then (number_of program.kinds) (option_and_then (text_at pool) (option_and_then name_of_class constant))))
    (option_and_then (member_named program.classes) member))))

abbrev field_kind : List ClassFile → ℕ → Option RankedField → Named
field_kind classes number None = meanings.Nothing
field_kind classes number (Some field) =
    if field.is_static then meanings.Static field.declared.class (slot_of classes number) else meanings.Field field.declared.class (slot_of classes number)

named_field : (program : Linked) (pool : List Constant) (index : ℕ) (field : IsFieldConstant pool index) (found : IsFound program.classes (field_names field.class.name field.name field.descriptor))
    → or_nothing (constant_named program.classes program.kinds program.constants pool index) ≡ meanings.Field found.field.declared.class (slot_of program.classes found.number)
named_field program pool index field found =
    ap (λ (constant : Option Constant). or_nothing (named_with program pool constant (member_at pool index))) field.constant
    ∙ ap (λ (member : Option MemberNames). or_nothing (option_and_then (member_named program.classes) member)) (member_names pool index field)
    ∙ ap (λ (found : Option ℕ). or_nothing (option_map (field_named program.classes) found)) found.found
    ∙ ap (field_kind program.classes found.number) found.there
    ∙ ap (λ (static : Bool). if static then meanings.Static found.field.declared.class (slot_of program.classes found.number) else meanings.Field found.field.declared.class (slot_of program.classes found.number)) found.instance

holder_located : (program : Linked) (number pc : ℕ) (method : Within) (insn : Insn) (index : ℕ) (at : Located program number pc method insn) → within program number ≡ Some method
    → (field : IsFieldConstant at.at.declaring.pool index) → holder method index ≡ number_of program.kinds field.class.name
holder_located program number pc method insn index at so field =
    ap (λ (found : Option Constant). option_and_then (λ (named : _). kind_named method named.1) (option_and_then member_of found))
    (ap (λ (program : Linked). option_and_then (λ (declaring : ClassFile). constant_at declaring.pool index) (slice_get program.classes method.class)) (within_method program number method so).own
    ∙ ap (λ (class : ℕ). option_and_then (λ (declaring : ClassFile). constant_at declaring.pool index) (slice_get program.classes class)) at.class
    ∙ ap (option_and_then (λ (declaring : ClassFile). constant_at declaring.pool index)) at.at.declares ∙ field.constant)
    ∙ kind_located program number pc method insn field.holder at so ∙ ap (option_and_then (number_of program.kinds)) field.class.text

pub no_component : (texts : List (List ℕ)) (name : List ℕ) → is_array name ≡ false → component_of texts name ≡ None
no_component texts [] none = refl
no_component texts (unit ∷ rest) none = ap (λ (test : Bool). cond test (Some (basic_of texts rest)) None) none

-- ---- the instruction

module _ (program : Linked) (whole : IsWhole program) (all : AllByRecursion IsWellFormed program.classes) (none : first_lacking program.classes ≡ None) (front : IsFronted program.classes)
    (extend : AllByRecursion ExtendsObject program.classes) (bare : (file : ClassFile) → slice_get program.classes 0 ≡ Some file → file.fields ≡ []) where
  module _ (number : ℕ) (field : RankedField) (there : slice_get (ranked_fields program.classes) number ≡ Some field) (instance : field.is_static ≡ false) where
    own : IsDeclared program.classes number field
    own = declared program.classes number field there

    pub basic : Basic
    basic = (linked_field program.kinds own.own).basic

    pub basic_is : basic_of_field program number ≡ Some basic
    unfolding basic own
    basic_is =
        ap (λ (fields : List LinkedField). option_map (λ (field : LinkedField). field.basic) (slice_get fields number)) whole.fields
        ∙ ap (option_map (λ (field : LinkedField). field.basic)) (slice_get-map (linked_field program.kinds) (fields_of program.classes) number ∙ ap (option_map (linked_field program.kinds)) own.there)

    pub has_field : (name : List ℕ) (at : IsResolved program.classes name field) (kind other : ℕ) → number_of program.kinds name ≡ Some kind → holds_kind program other kind ≡ true
        → HasField program other (slot_of program.classes number) basic
    has_field name at kind other numbered holds = by (held_class program.classes front whole.good extend all bare number field there instance name at.class at.held at.below
        on (kind_clean program whole all kind name kind_there plain) (kind_clean program whole all other on on_there) held_so)
      where
        parts : ((nat_lt other (length program.kinds) && nat_lt kind (length program.kinds)) ≡ true) × (is_held_as program.classes (type_of_kind program other) (type_of_kind program kind) ≡ true)
        parts = and_parts (nat_lt other (length program.kinds) && nat_lt kind (length program.kinds)) (is_held_as program.classes (type_of_kind program other) (type_of_kind program kind)) holds

        on : List ℕ
        on = get_or program.kinds other []

        on_there : slice_get program.kinds other ≡ Some on
        on_there = slice_get-get_or program.kinds other [] (ltb-true other (length program.kinds) (and_parts (nat_lt other (length program.kinds)) (nat_lt kind (length program.kinds)) parts.0).0)

        kind_there : slice_get program.kinds kind ≡ Some name
        kind_there = text_numbered program.kinds name kind numbered

        plain : is_array name ≡ false
        plain = (plain_class program.classes front whole.good extend all bare number field there instance name at.class at.held at.below).0

        kind_type : type_of_kind program kind ≡ letter_class ∷ name ++ semicolon ∷ []
        kind_type =
            ap (λ (found : Option (List ℕ)). type_of_name (or_none found)) kind_there ∙ ap (λ (test : Bool). cond test name (letter_class ∷ name ++ semicolon ∷ [])) plain

        held_so : is_held_as program.classes (type_of_name on) (letter_class ∷ name ++ semicolon ∷ []) ≡ true
        held_so = sym (ap₂ (is_held_as program.classes) (ap (λ (found : Option (List ℕ)). type_of_name (or_none found)) on_there) kind_type) ∙ parts.1

        by : (is_array on ≡ false) × ((own : ℕ) × ((class_number program.classes on ≡ Some own) × (is_subclass (hierarchy program.classes) own field.declared.class ≡ true)))
            → HasField program other (slot_of program.classes number) basic
        by (none, (class, (classed, below))) = record {
          class = class;
          classed = ap (option_and_then (class_number program.classes)) on_there ∙ classed;
          declared = ap (option_and_then (basic_of_field program))
              (slot_there program.classes front whole.good extend all bare number field there instance class (number_within program.classes on class classed) below) ∙ basic_is;
          no_elements = ap (λ (found : Option (List ℕ)). component_of program.kinds (or_none found)) on_there ∙ no_component program.kinds on none;
        }

  pub names_field : (number pc index : ℕ) (method : Within) (insn : Insn) (action : Action) → within program number ≡ Some method
      → insn_in (code_at program number) pc ≡ Some insn → action_of insn ≡ Some action → field_index action ≡ Some index → NamesField program method number pc index
  names_field number pc index method insn action so there is asks = record {
    class = found.field.declared.class;
    slot = slot_of program.classes found.number;
    basic = basic found.number found.field found.there found.instance;
    names = named_located program number pc method insn index at opcode.names ∙ named_field program at.at.declaring.pool index field found;
    declared = ap (option_and_then (basic_of_field program))
        (own_slot program.classes front whole.good extend all bare found.number found.field found.there found.instance) ∙ basic_is found.number found.field found.there found.instance;
    has = λ kind own holds goes.
        has_field found.number found.field found.there found.instance field.class.name
        (resolved program.classes (field_names field.class.name field.name field.descriptor) found.number found.field found.found found.there) kind own
        (sym (holder_located program number pc method insn index at so field) ∙ holds) goes;
  }
    where
      at : Located program number pc method insn
      at = located program number pc method insn whole so there

      opcode : AsksField insn.opcode index insn.operand
      opcode = asks_field insn action index is asks

      field : IsFieldConstant at.at.declaring.pool index
      field =
          field_needed at.at.declaring.pool index (formed at.at.declaring (all_at IsWellFormed program.classes at.own.class at.at.declaring all at.at.declares)).indexed
          (stands_needed at.at.declaring.pool insn index needs.Field opcode.names (field_kind_needed insn.opcode index insn.operand opcode) (constant_of program number pc method insn at all))

      found : IsFound program.classes (field_names field.class.name field.name field.descriptor)
      found = field_found program.classes at.own.class at.at.declaring.pool insn index field opcode.one opcode.names (lacks_none program none number pc method insn at)

-- ---- with the library in front

pub bare_object : (library more : List ClassFile) → AreLibrary library → (file : ClassFile) → slice_get (library ++ more) 0 ≡ Some file → file.fields ≡ []
bare_object [] more are file is = absurd are
bare_object (one ∷ library) more are file is =
    ap (λ (file : ClassFile). file.fields) (sym (same_Some one file is)) ∙ none_zipped (SaysField one.pool) one.fields are.0.fields

pub program_names_fields : (program : Linked) (library more : List ClassFile) → program.classes ≡ library ++ more → AreLibrary library → AllByRecursion IsWellFormed program.classes
    → IsWhole program → first_lacking program.classes ≡ None → NamesFields program
program_names_fields program library more is are all whole none =
    names_field program whole all none (subst IsFronted (sym is) (fronted_by library more are)) (all_weaker IsWellFormed ExtendsObject formed_extends program.classes all)
    (subst (λ (classes : List ClassFile). (file : ClassFile) → slice_get classes 0 ≡ Some file → file.fields ≡ []) (sym is) (bare_object library more are))
