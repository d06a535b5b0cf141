-- What the constants of a program name is there, and a method that is selected is one of the program's.
use Rattle.std.proofs.Common.{◌≡◌, ◌∙◌, ap, refl, sym, subst, arith, IfSome, Bool, true, false, if◌then◌else◌, ℕ, zero, suc, ◌<◌, List, Option, None, Some, length, option_and_then, option_map}
use Rattle.std.specs.Prelude.{slice_get}
use Rattle.std.specs.List.{Contains}
use Rattle.std.specs.Option.{option_or}
use Rattle.std.proofs.lemmas.List.{length-map}
use Rattle.std.proofs.lemmas.Option.{slice_get_within}
use Rattle.cb_plain.specs.declared.value.Value.TheVariants as values
use Rattle.cb_text.specs.declared.constant.Constant.{Constant}
use Rattle.cb_text.specs.declared.naming.MemberKind.{MemberKind}
use Rattle.cb_text.specs.declared.naming.MemberKind.TheVariants as members
use Rattle.cb_text.specs.Naming.{MemberNames, class_at, int_at, long_at, member_at, string_at}
use Rattle.cb_classfile.specs.declared.class.ClassFile.{ClassFile}
use Rattle.cb_classfile.specs.declared.method.Method.{Method}
use Rattle.cb_classfile.specs.Needed.{index_in}
use Rattle.cb_hierarchy.specs.declared.class.Class.{Class as Ranked}
use Rattle.cb_hierarchy.specs.declared.member.Field.{Field as RankedField}
use Rattle.cb_hierarchy.specs.Orders.{in_turns, upwards_by}
use Rattle.cb_hierarchy.specs.Resolution.{resolved_method}
use Rattle.cb_kinds.specs.Texts.{number_of, number_of_pair}
use Rattle.cb_link.specs.declared.named.Named.{Named}
use Rattle.cb_link.specs.declared.named.Named.TheVariants as meanings
use Rattle.cb_link.specs.Calls.{IsOneOf, class_of_kind, or_object, select}
use Rattle.cb_link.specs.Having.{IsWhole}
use Rattle.cb_link.specs.Named.{IsThere, code_in, constant_named, field_named, insn_in, kind_at, kind_in, member_named, named, named_at, or_nothing}
use Rattle.cb_link.specs.Numbers.{Numbered, hierarchy, method_texts, methods_of, ranked, ranked_fields, ranked_method, ranked_methods}
use Rattle.cb_link.specs.Program.{Linked, linked_method}
use Rattle.cb_link.specs.Resolving.{found_field, found_method, holder, object}
use Rattle.cb_link.specs.Slots.{object_fields, slot_of, statics}
use Rattle.cb_link.specs.InnerPlaces.{constant_of}
use Rattle.cb_link.proofs.FieldPlaces.{declared_low}
use Rattle.cb_link.proofs.FoundLow.{chained, either, mapped, resolved_low, selected_low, whenever}
use Rattle.cb_link.proofs.Ranged.{number_low}
use Rattle.cb_link.proofs.SlotLaws.{object_slot}
use Rattle.cb_link.proofs.SlotPlaces.{static_slot}

-- a class is the first upwards of itself
begins : (classes : List Ranked) (turns class : ℕ) → class < turns → Contains (in_turns (upwards_by classes) turns class) class
begins classes zero class low = absurd (omega (arith, low))
begins classes (suc turns) class low = (0, omega arith, refl)

-- a name's number, where the name is read from a pool
kind_low : (names : List (List ℕ)) (name : Option (List ℕ)) → IfSome (option_and_then (number_of names) name) (λ number. number < length names)
kind_low names name = chained (λ number. number < length names) (number_of names) name (λ name. whenever (λ number. number < length names) (number_of names name) (number_low names name))

-- the kind that a constant names
pub kind_below : (kinds : List (List ℕ)) (pool : List Constant) (index : ℕ) → IfSome (kind_in kinds pool index) (λ kind. kind < length kinds)
kind_below kinds pool index = kind_low kinds (class_at pool index)

pub kind_at_below : (program : Linked) (class index : ℕ) → IfSome (kind_at program class index) (λ kind. kind < length program.kinds)
kind_at_below program class index =
    chained (λ kind. kind < length program.kinds) (λ (declaring : ClassFile). kind_in program.kinds declaring.pool index) (slice_get program.classes class)
    (λ declaring. kind_below program.kinds declaring.pool index)

module _ (program : Linked) (whole : IsWhole program) where
  as_many : length (ranked_methods program.classes) ≡ length program.methods
  as_many =
      length-map (methods_of program.classes) (ranked_method program.classes)
      ∙ sym (ap length whole.methods ∙ length-map (methods_of program.classes) (linked_method program.kinds))

  -- a field that is found stands at its slot
  module _ (number : ℕ) (field : RankedField) (is : slice_get (ranked_fields program.classes) number ≡ Some field) where
    class_there : field.declared.class < length (hierarchy program.classes)
    class_there = declared_low program.classes number field is

    in_classes : field.declared.class < length program.classes
    in_classes = subst (λ count. field.declared.class < count) (length-map program.classes (ranked program.classes)) class_there

    slot_there : (test : Bool) → field.is_static ≡ test
        → IsThere program (if test then meanings.Static field.declared.class (slot_of program.classes number) else meanings.Field field.declared.class (slot_of program.classes number))
    slot_there true static = (in_classes, slice_get_within (statics program.classes) (slot_of program.classes number) number (static_slot program.classes number field is static))
    slot_there false instance =
        let class = field.declared.class in
        let first = begins (hierarchy program.classes) (length (hierarchy program.classes)) class class_there in
        let at = object_slot program.classes class number field whole.good class_there is instance first in
        (in_classes, slice_get_within (object_fields program.classes class) (slot_of program.classes number) number at)

  abbrev as_field : ℕ → Option RankedField → Named
  as_field number None = meanings.Nothing
  as_field number (Some field) =
      if field.is_static then meanings.Static field.declared.class (slot_of program.classes number) else meanings.Field field.declared.class (slot_of program.classes number)

  field_there : (number : ℕ) → IsThere program (field_named program.classes number)
  field_there number = go (slice_get (ranked_fields program.classes) number) refl where
    go : (some : Option RankedField) → slice_get (ranked_fields program.classes) number ≡ some → IsThere program (as_field number some)
    go None is = tt
    go (Some field) is = slot_there number field is field.is_static refl

  -- a method that is found is one of the program's
  method_there : (member : MemberNames) → IfSome (found_method program.classes member) (λ method. method < length program.methods)
  method_there member =
      let Low : ℕ → Type 0 = λ method. method < length (ranked_methods program.classes) in
      let found : ℕ → ℕ → Option ℕ = λ class signature. resolved_method (hierarchy program.classes) (ranked_methods program.classes) object class signature in
      let signature : Option ℕ = number_of_pair (method_texts program.classes) (member.name, member.descriptor) in
      subst (λ count. IfSome (found_method program.classes member) (λ method. method < count)) as_many
      (chained Low (λ class. option_and_then (found class) signature) (holder program.classes member.class)
      (λ class. chained Low (found class) signature (resolved_low (hierarchy program.classes) (ranked_methods program.classes) object class)))

  member_there : (member : MemberNames) → IfSome (member_named program.classes member) (IsThere program)
  member_there member = go member.kind refl where
    methods : IfSome (option_map meanings.Method (found_method program.classes member)) (IsThere program)
    methods = mapped (IsThere program) meanings.Method (found_method program.classes member) (method_there member)

    go : (kind : MemberKind) → member.kind ≡ kind → IfSome (member_named program.classes member) (IsThere program)
    go members.Field is =
        rw is
        (mapped (IsThere program) (field_named program.classes) (found_field program.classes member)
        (whenever (λ number. IsThere program (field_named program.classes number)) (found_field program.classes member) (λ number found. field_there number)))
    go members.Method is = rw is methods
    go members.InterfaceMethod is = rw is methods

  constant_there : (pool : List Constant) (index : ℕ) → IfSome (constant_named program.classes program.kinds program.constants pool index) (IsThere program)
  constant_there pool index =
      let There : Named → Type 0 = IsThere program in
      let ints : Option Named = option_map (λ number. meanings.Whole (values.Int number)) (int_at pool index) in
      let longs : Option Named = option_map (λ number. meanings.Whole (values.Long number)) (long_at pool index) in
      let texts : Option Named = option_map meanings.Text (option_and_then (number_of program.constants) (string_at pool index)) in
      let kinds : Option Named = option_map meanings.Kind (option_and_then (number_of program.kinds) (class_at pool index)) in
      let members : Option Named = option_and_then (member_named program.classes) (member_at pool index) in
      either There ints (option_or longs (option_or texts (option_or kinds members)))
      (mapped There (λ number. meanings.Whole (values.Int number)) (int_at pool index) (whenever (λ number. Unit {0}) (int_at pool index) (λ number found. tt)))
      (either There longs (option_or texts (option_or kinds members))
      (mapped There (λ number. meanings.Whole (values.Long number)) (long_at pool index) (whenever (λ number. Unit {0}) (long_at pool index) (λ number found. tt)))
      (either There texts (option_or kinds members)
      (mapped There meanings.Text (option_and_then (number_of program.constants) (string_at pool index)) (kind_low program.constants (string_at pool index)))
      (either There kinds members
      (mapped There meanings.Kind (option_and_then (number_of program.kinds) (class_at pool index)) (kind_below program.kinds pool index))
      (chained There (member_named program.classes) (member_at pool index) member_there))))

  nothing_or : (some : Option Named) → IfSome some (IsThere program) → IsThere program (or_nothing some)
  nothing_or None is = tt
  nothing_or (Some other) is = is

  pub named_there : (pool : List Constant) (index : Option ℕ) → IsThere program (named_at program pool index)
  named_there pool index =
      let constant : ℕ → Option Named = constant_named program.classes program.kinds program.constants pool in
      nothing_or (option_and_then constant index) (chained (IsThere program) constant index (constant_there pool))

  -- of a class, and of an instruction
  pub class_constant_there : (class : ℕ) (index : Option ℕ) → IsThere program (constant_of program class index)
  class_constant_there class index = go (slice_get program.classes class) refl where
    go : (some : Option ClassFile) → slice_get program.classes class ≡ some → IsThere program (constant_of program class index)
    go None is = rw is tt
    go (Some declaring) is = rw is (named_there declaring.pool index)

  pub insn_there : (method pc : ℕ) → IsThere program (named program method pc)
  insn_there method pc = go (slice_get (methods_of program.classes) method) refl where
    go : (some : Option (Numbered Method)) → slice_get (methods_of program.classes) method ≡ some → IsThere program (named program method pc)
    go None is = rw is tt
    go (Some numbered) is = rw is (named_there numbered.pool (option_and_then (λ insn. index_in insn.operand) (insn_in (code_in numbered.member.body) pc)))

  pub select_one_of : (kind method : ℕ) → IsOneOf (length program.methods) (select program kind method)
  select_one_of kind method =
      subst (λ count. IsOneOf count (select program kind method)) as_many
      (selected_low (hierarchy program.classes) (ranked_methods program.classes) (or_object (class_of_kind program kind)) method)
