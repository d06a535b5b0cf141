-- The constants of enums are of kinds below Enum, in each program that is linked (JLS §8.9.3).
use Rattle.std.proofs.Common.{◌≡◌, ◌∙◌, ap, ap₂, arith, refl, sym, subst, ℕ, suc, ◌+◌, ◌<◌, ◌==◌, ◌&&◌, Bool, true, false, cond, List, [], ◌∷◌, ◌++◌, filter, length, map, Option, Some, option_and_then, option_map, slice_get}
use Rattle.std.specs.Prelude.{drop}
use Rattle.std.specs.List.{AllByRecursion, Contains, enumerate_from, flat_map, list_any}
use Rattle.std.proofs.lemmas.Bool.{and_parts, or_right}
use Rattle.std.proofs.lemmas.List.{length-map}
use Rattle.std.proofs.lemmas.Option.{slice_get-map, slice_get_within}
use Rattle.cb_classfile.specs.Class.{IsWellFormed}
use Rattle.cb_classfile.specs.Flags.{acc_static}
use Rattle.cb_classfile.specs.Library.{IsRecordOf}
use Rattle.cb_classfile.specs.Pool.{text_at}
use Rattle.cb_classfile.specs.declared.class.ClassFile.{ClassFile}
use Rattle.cb_classfile.specs.declared.field.Field.{Field}
use Rattle.cb_hierarchy.specs.Orders.{is_subclass, upwards}
use Rattle.cb_kinds.proofs.Laws.{kind_number_of, text_at as text_numbered}
use Rattle.cb_kinds.specs.Basics.{basic_of, kind_number}
use Rattle.cb_kinds.specs.Kinds.{kinds_of_name, type_of_name}
use Rattle.cb_kinds.specs.Texts.{number_of, same_text}
use Rattle.cb_kinds.specs.declared.basic.Basic.{Basic}
use Rattle.cb_kinds.specs.declared.basic.Basic.TheVariants as basics
use Rattle.cb_library.specs.Lang.{enum_class}
use Rattle.cb_link.proofs.Laws.{all_named, placed, static_slot}
use Rattle.cb_link.specs.Making.{class_kinds, fixed_kinds}
use Rattle.cb_link.specs.Numbers.{Numbered, acc_enum, class_number, fields_of, has_flag, hierarchy, name_of, or_none, ranked, ranked_field, ranked_methods}
use Rattle.cb_link.specs.Places.{IsPlaced}
use Rattle.cb_link.specs.Program.{Linked, linked_field}
use Rattle.cb_link.specs.Slots.{basic_of_field, enum_name, enum_statics, is_enum, is_enum_static, slot_of, static_basic}
use Rattle.cb_link.specs.Subtypes.{between, is_instance, is_subtype, type_of_kind}
use Rattle.cb_link.specs.declared.linked.LinkedField.{LinkedField}
use Rattle.cb_names.specs.Names.{IsClassName}
use Rattle.cb_safety.specs.Kinds.{holds_kind}
use Rattle.cb_safety.specs.Linked.{IsLinked}
use Rattle.cb_safety.specs.Performing.{IsConstant}
use Rattle.cb_safety.specs.Signatures.{enum}
use Rattle.cb_safety.proofs.Chosen.{stands_under}
use Rattle.cb_safety.proofs.Clean.{class_clean, own_class_name}
use Rattle.cb_safety.proofs.CoreKinds.{core_number}
use Rattle.cb_safety.proofs.Exceptions.{IsRow, file_at, kind_class}
use Rattle.cb_safety.proofs.Holding.{instance_below, instance_goes, is_text}
use Rattle.cb_safety.proofs.Kinded.{IsNumbered, numbered_of}
use Rattle.cb_safety.proofs.Linking.{front}
use Rattle.cb_safety.proofs.Links.{Links, links}
use Rattle.cb_safety.proofs.Lists.{all_at}
use Rattle.cb_safety.proofs.Located.{all_parts}
use Rattle.cb_safety.proofs.Ordered.{acyclic, named_low, number_low}
use Rattle.cb_safety.proofs.OwnKinds.{name_at}
use Rattle.cb_safety.proofs.Parts.{name_ends}
use Rattle.cb_safety.proofs.Searching.{all_each}
use Rattle.cb_safety.proofs.Superclasses.{type_is, types_below}

-- ---- what is picked of numbered items, and what stands behind the first

all_picked : {Item : Type 0} (P : ℕ → Type 0) (test : Item → Bool) (say : ℕ → ℕ) (from : ℕ) (items : List Item)
    → ((turn : ℕ) (item : Item) → slice_get items turn ≡ Some item → test item ≡ true → P (say (from + turn)))
    → AllByRecursion P (map (λ (entry : ℕ × Item). say entry.0) (filter (λ (entry : ℕ × Item). test entry.1) (enumerate_from from items)))
all_picked P test say from [] each = tt
all_picked {Item} P test say from (first ∷ items) each =
    go (test first) refl
    (all_picked P test say (from + 1) items
    (λ turn item there passes.
    subst (λ (number : ℕ). P (say number)) (let same : from + suc turn ≡ from + 1 + turn = omega arith in same) (each (suc turn) item there passes)))
  where
    go : (passes : Bool) → test first ≡ passes
        → AllByRecursion P (map (λ (entry : ℕ × Item). say entry.0) (filter (λ (entry : ℕ × Item). test entry.1) (enumerate_from (from + 1) items)))
        → AllByRecursion P (map (λ (entry : ℕ × Item). say entry.0) (cond passes ((from, first) ∷ filter (λ (entry : ℕ × Item). test entry.1) (enumerate_from (from + 1) items)) (filter (λ (entry : ℕ × Item). test entry.1) (enumerate_from (from + 1) items))))
    go true told rest = (subst (λ (number : ℕ). P (say number)) (let same : from + 0 ≡ from = omega arith in same) (each 0 first refl told), rest)
    go false told rest = rest

any_dropped : (test : ℕ → Bool) (numbers : List ℕ) → list_any test (drop 1 numbers) ≡ true → list_any test numbers ≡ true
any_dropped test [] is = is
any_dropped test (first ∷ numbers) is = or_right (test first) (list_any test numbers) is

module _ (program : Linked) (is : IsLinked program) where
  own : Links program
  own = links program is

  -- ---- Enum

  enum_file : IsRow IsRecordOf (is.library ++ is.more) enum enum_class
  enum_file = file_at is.library is.more is.is_library enum enum_class refl

  enum_is_class : IsClassName enum_name
  enum_is_class =
      let formed : AllByRecursion IsWellFormed (is.library ++ is.more) = subst (AllByRecursion IsWellFormed) (front program is) own.formed in
      subst IsClassName (ap or_none enum_file.is.name) (own_class_name enum_file.item (all_at IsWellFormed (is.library ++ is.more) enum enum_file.item formed enum_file.there))

  enum_number : class_number program.classes enum_name ≡ Some enum
  enum_number = kind_class program is.library is.more (front program is) is.is_library own.whole enum_name enum refl

  enum_kind : number_of program.kinds enum_name ≡ Some enum
  enum_kind = core_number program is enum_name enum refl

  -- ---- the names of classes are those of kinds

  abbrev Among : List ℕ → Type 0
  Among name = list_any (same_text name) program.kinds ≡ true

  names_among : AllByRecursion Among (map name_of program.classes)
  names_among =
      let named : List (List ℕ) = map name_of program.classes ++ flat_map class_kinds program.classes in
      (all_parts Among (map name_of program.classes) (flat_map class_kinds program.classes)
      (all_parts Among named (flat_map kinds_of_name fixed_kinds)
      (subst (λ (texts : List (List ℕ)). AllByRecursion (λ name. list_any (same_text name) texts ≡ true) (named ++ flat_map kinds_of_name fixed_kinds)) (sym own.whole.kinds) (all_named program.classes))).0).0

  -- ---- a class below Enum

  module _ (class : ℕ) (file : ClassFile) (there : slice_get program.classes class ≡ Some file) where
    own_name : IsClassName (name_of file)
    own_name = own_class_name file (all_at IsWellFormed program.classes class file own.formed there)

    own_kind : IsNumbered program.kinds (name_of file)
    own_kind = numbered_of program.kinds (name_of file) (all_at Among (map name_of program.classes) class (name_of file) names_among (name_at program.classes class file there))

    type_of_it : basic_of program.kinds (type_of_name (name_of file)) ≡ basics.Reference own_kind.number
    type_of_it =
        ap (basic_of program.kinds) (type_is (name_of file) own_name)
        ∙ ap (λ (name : List ℕ). basics.Reference (kind_number program.kinds name)) (name_ends (name_of file) ∙ class_clean (name_of file) own_name)
        ∙ ap basics.Reference (kind_number_of program.kinds (name_of file) own_kind.number own_kind.is)

    within : class < length (hierarchy program.classes)
    within = omega (arith, length-map program.classes (ranked program.classes), slice_get_within program.classes class file there)

    module _ (below : is_enum program.classes class (class_number program.classes enum_name) ≡ true) where
      under : is_subclass (hierarchy program.classes) class enum ≡ true
      under =
          stands_under (hierarchy program.classes) (acyclic (hierarchy program.classes) (ranked_methods program.classes) own.whole.good) (named_low program.classes) class enum within
          (any_dropped (λ (number : ℕ). number == enum) (upwards (hierarchy program.classes) class) (sym (ap (is_enum program.classes class) enum_number) ∙ below))

      goes : holds_kind program own_kind.number enum ≡ true
      goes =
          instance_goes program own_kind.number enum own_kind.low (number_low program.kinds enum_name enum enum_kind)
          (ap (λ (found : Option (List ℕ)). is_subtype (is_instance program.classes) (type_of_name (or_none found)) (type_of_kind program enum))
          (text_numbered program.kinds (name_of file) own_kind.number own_kind.is)
          ∙ ap (λ (found : Option (List ℕ)). is_subtype (is_instance program.classes) (type_of_name (name_of file)) (type_of_name (or_none found)))
          (text_numbered program.kinds enum_name enum enum_kind)
          ∙ types_below (is_instance program.classes) (name_of file) enum_name own_name enum_is_class
          (instance_below program.classes (name_of file) enum_name (ap₂ (between program.classes) (own.kinds.number class file there) enum_number ∙ under)))

  -- ---- a constant

  module _ (number : ℕ) (field : Numbered Field) (there : slice_get (fields_of program.classes) number ≡ Some field) where
    abbrev descriptor : List ℕ
    descriptor = or_none (text_at field.pool field.member.descriptor)

    at : IsPlaced (λ (class : ClassFile). class.fields) program.classes field
    at = placed (λ (class : ClassFile). class.fields) program.classes number field there

    static_is : has_flag acc_static field.member.flags.0 ≡ true → static_basic program (slot_of program.classes number) ≡ Some (basic_of program.kinds descriptor)
    static_is static =
        ap (option_and_then (basic_of_field program))
        (static_slot program.classes number (ranked_field program.classes field)
        (slice_get-map (ranked_field program.classes) (fields_of program.classes) number ∙ ap (option_map (ranked_field program.classes)) there) static)
        ∙ ap (λ (fields : List LinkedField). option_map (λ (field : LinkedField). field.basic) (slice_get fields number)) own.whole.fields
        ∙ ap (option_map (λ (field : LinkedField). field.basic))
        (slice_get-map (linked_field program.kinds) (fields_of program.classes) number ∙ ap (option_map (linked_field program.kinds)) there)

    constant : is_enum_static program.classes field ≡ true → IsConstant program (slot_of program.classes number)
    constant passes =
        let flagged : Bool = has_flag acc_static field.member.flags.0 && has_flag acc_enum field.member.flags.0 in
        let typed : Bool = same_text descriptor (type_of_name (or_none (option_map name_of (slice_get program.classes field.class)))) in
        let under : Bool = is_enum program.classes field.class (class_number program.classes enum_name) in
        let parts = and_parts flagged (typed && under) passes in
        let both = and_parts typed under parts.1 in
        let type : descriptor ≡ type_of_name (name_of at.declaring) =
        is_text descriptor (type_of_name (or_none (option_map name_of (slice_get program.classes field.class)))) both.0
        ∙ ap (λ (found : Option ClassFile). type_of_name (or_none (option_map name_of found))) at.declares in
        let kind : IsNumbered program.kinds (name_of at.declaring) = own_kind field.class at.declaring at.declares in
        record {
          kind = kind.number;
          declared = static_is (and_parts (has_flag acc_static field.member.flags.0) (has_flag acc_enum field.member.flags.0) parts.0).0
              ∙ ap (λ (text : List ℕ). Some (basic_of program.kinds text)) type ∙ ap (λ (basic : Basic). Some basic) (type_of_it field.class at.declaring at.declares);
          goes = goes field.class at.declaring at.declares both.1;
        }

  pub has_enums : (class slot : ℕ) → Contains (enum_statics program.classes class) slot → IsConstant program slot
  has_enums class slot among =
      all_each (IsConstant program) (enum_statics program.classes class) slot
      (all_picked (IsConstant program) (λ (field : Numbered Field). (field.class == class) && is_enum_static program.classes field) (slot_of program.classes) 0
      (fields_of program.classes)
      (λ turn field there passes.
      subst (λ (number : ℕ). IsConstant program (slot_of program.classes number)) (let same : turn ≡ 0 + turn = omega arith in same)
      (constant turn field there (and_parts (field.class == class) (is_enum_static program.classes field) passes).1))) among
