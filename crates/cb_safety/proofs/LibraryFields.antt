-- The fields of the library's classes, which each object has that may be held as one of such a class.
use Rattle.std.proofs.Common.{◌≡◌, ◌∙◌, ap, ap₂, arith, refl, sym, subst, ℕ, zero, suc, ◌+◌, ◌<◌, ◌==◌, Bool, true, false, not, List, [], ◌∷◌, ◌++◌, filter, length, if◌then◌else◌, Option, Some, option_and_then, option_map, slice_get}
use Rattle.std.specs.List.{AllByRecursion, enumerate_from, flat_map}
use Rattle.std.specs.Prelude.{codes}
use Rattle.std.proofs.lemmas.Bool.{and_parts}
use Rattle.std.proofs.lemmas.Option.{none-some, option_and_then_some, same_Some, slice_get-map, slice_get_within}
use Rattle.cb_classfile.specs.Class.{IsWellFormed}
use Rattle.cb_classfile.specs.Flags.{acc_static}
use Rattle.cb_classfile.specs.Library.{IsRecordOf, SaysField}
use Rattle.cb_classfile.specs.declared.class.ClassFile.{ClassFile}
use Rattle.cb_classfile.specs.declared.field.Field.{Field}
use Rattle.cb_hierarchy.specs.Layout.{own_fields}
use Rattle.cb_hierarchy.specs.Orders.{is_subclass}
use Rattle.cb_hierarchy.specs.declared.member.Field.{Field as RankedField}
use Rattle.cb_kinds.specs.Basics.{basic_of, kind_number}
use Rattle.cb_kinds.specs.Kinds.{is_array}
use Rattle.cb_kinds.specs.Texts.{number_of}
use Rattle.cb_kinds.specs.declared.basic.Basic.{Basic}
use Rattle.cb_kinds.specs.declared.basic.Basic.TheVariants as basics
use Rattle.cb_library.specs.Boxes.{boolean_class, character_class, integer_class, long_class, number_class}
use Rattle.cb_library.specs.CoreClasses.{core_classes}
use Rattle.cb_library.specs.Lang.{class_class, enum_class}
use Rattle.cb_library.specs.Names as names
use Rattle.cb_library.specs.Rows.{CoreClass}
use Rattle.cb_library.specs.Rows as rows
use Rattle.cb_library.specs.Text.{string_builder_class, string_class}
use Rattle.cb_library.specs.Throwables.{throwable_class}
use Rattle.cb_link.specs.Having.{IsWhole}
use Rattle.cb_link.specs.Numbers.{Numbered, class_number, fields_of, has_flag, hierarchy, or_none, ranked, ranked_field, ranked_fields, ranked_methods}
use Rattle.cb_link.specs.Program.{Linked, linked_field}
use Rattle.cb_link.specs.Slots.{basic_of_field, field_basic, object_fields, slot_of}
use Rattle.cb_link.specs.declared.linked.LinkedField.{LinkedField}
use Rattle.cb_machine.specs.Arrays.{element_of}
use Rattle.cb_machine.specs.Library as library
use Rattle.cb_verify.specs.Within.{kind_of_class, kind_of_string, kind_of_throwable}
use Rattle.cb_safety.specs.Linked.{IsLinked}
use Rattle.cb_safety.specs.Naming.{HasField}
use Rattle.cb_safety.specs.Order.{ExtendsObject}
use Rattle.cb_safety.specs.Performing.{HaveField}
use Rattle.cb_safety.specs.Signatures.{builder, characters, enum, throwables}
use Rattle.cb_safety.proofs.Assigned.{never}
use Rattle.cb_safety.proofs.CoreFields.{SaysBasic, object_basic, own_basic}
use Rattle.cb_safety.proofs.CoreKinds.{IsArrayOf, IsCore, array_kind, core_kind, core_number, string_is}
use Rattle.cb_safety.proofs.Exceptions.{IsRow, core_names, extends_to, file_at, kind_class, laid, laid_object, own_count, own_none, rank_low, zipped_at}
use Rattle.cb_safety.proofs.Fielded.{bare_object, basic, basic_is, has_field}
use Rattle.cb_safety.proofs.Lacked.{entry_at}
use Rattle.cb_safety.proofs.Linking.{front, linked_formed, linked_lacks, linked_whole}
use Rattle.cb_safety.proofs.Ordered.{IsFronted, acyclic, formed_extends, fronted_by, named_low}
use Rattle.cb_safety.proofs.OwnFields.{IsNoStatic, class_fields, fields_in, is_of_class, of_object}
use Rattle.cb_safety.proofs.Resolved.{IsResolved, own_slot}
use Rattle.cb_safety.proofs.Searching.{all_weaker}
use Rattle.cb_safety.proofs.Subclasses.{ends, own_looked}

-- what is kept of a list stands in it
filter_at : {Item : Type 0} (test : Item → Bool) (items : List Item) (place : ℕ) (item : Item) → slice_get (filter test items) place ≡ Some item
    → (at : ℕ) × (slice_get items at ≡ Some item) × (test item ≡ true)
filter_at test [] place item is = never is
filter_at {Item} test (first ∷ items) place item is = go (test first) refl place is (filter_at test items) where
  abbrev_placed : Type 0
  abbrev_placed = (at : ℕ) × (slice_get (first ∷ items) at ≡ Some item) × (test item ≡ true)

  behind : (at : ℕ) × (slice_get items at ≡ Some item) × (test item ≡ true) → abbrev_placed
  behind found = (suc found.0, found.1, found.2)

  here : (place : ℕ) → test first ≡ true → slice_get (first ∷ filter test items) place ≡ Some item
      → ((place : ℕ) (item : Item) → slice_get (filter test items) place ≡ Some item → (at : ℕ) × (slice_get items at ≡ Some item) × (test item ≡ true)) → abbrev_placed
  here zero passes is later = (0, is, subst (λ (item : Item). test item ≡ true) (same_Some first item is) passes)
  here (suc place) passes is later = behind (later place item is)

  go : (passes : Bool) → test first ≡ passes → (place : ℕ) → slice_get (filter test (first ∷ items)) place ≡ Some item
      → ((place : ℕ) (item : Item) → slice_get (filter test items) place ≡ Some item → (at : ℕ) × (slice_get items at ≡ Some item) × (test item ≡ true)) → abbrev_placed
  go true passes place is later = here place passes (rw passes at is) later
  go false passes place is later = behind (later place item (rw passes at is))

module _ (program : Linked) (is : IsLinked program) where
  whole : IsWhole program
  whole = linked_whole program is

  module _ (place : ℕ) (row : CoreClass) (there : slice_get core_classes place ≡ Some row) (none : AllByRecursion IsNoStatic row.fields) (numbered : number_of core_names row.name ≡ Some place)
      (plain : is_array row.name ≡ false)
      (lays : (slot : ℕ) (basic : Basic) → field_basic program place slot ≡ Some basic → SaysBasic program row.fields slot basic) where
    file : IsRow IsRecordOf (is.library ++ is.more) place row
    file = file_at is.library is.more is.is_library place row there

    file_there : slice_get program.classes place ≡ Some file.item
    file_there = ap (λ (classes : List ClassFile). slice_get classes place) (front program is) ∙ file.there

    -- a field of the row has a number, and each object has it at its slot
    pub record Had (basic : Basic) : Type 0 where
      pub slot : ℕ
      pub says : SaysBasic program row.fields slot basic
      pub has : HaveField program place slot basic

    pub had : (at : ℕ) (own : rows.Field) → slice_get row.fields at ≡ Some own → Had (basic_of program.kinds own.descriptor)
    had at own is_own = record {
      slot = slot_of program.classes number;
      says = lays (slot_of program.classes number) wanted declared_at;
      has = λ other holds. subst (HasField program other (slot_of program.classes number)) basic_same
          (has_field program whole (linked_formed program is) (linked_lacks program is) fronted extend bare number field field_there instance row.name resolves place other
          (core_number program is row.name place numbered) holds);
    }
      where
        wanted : Basic
        wanted = basic_of program.kinds own.descriptor

        listed : IsRow (SaysField file.item.pool) file.item.fields at own
        listed = zipped_at (SaysField file.item.pool) row.fields file.item.fields at own file.is.fields is_own

        of : Numbered Field
        of = record { class = place; place = 0 + at; pool = file.item.pool; member = listed.item }

        in_file : slice_get (fields_in place file.item) at ≡ Some of
        in_file =
            slice_get-map (λ (own : ℕ × Field). record { class = place; place = own.0; pool = file.item.pool; member = own.1 }) (enumerate_from 0 file.item.fields) at
            ∙ ap (option_map (λ (own : ℕ × Field). record { class = place; place = own.0; pool = file.item.pool; member = own.1 })) (entry_at 0 file.item.fields at listed.item listed.there)

        found : (number : ℕ) × (slice_get (fields_of program.classes) number ≡ Some of) × (is_of_class place of ≡ true)
        found =
            filter_at (is_of_class place) (fields_of program.classes) at of
            (ap (λ (list : List (Numbered Field)). slice_get list at)
            (class_fields 0 place place program.classes file.item (let zeroth : place ≡ 0 + place = omega arith in zeroth) file_there (of_object file.item.pool row.fields file.item.fields file.is.fields none))
            ∙ in_file)

        number : ℕ
        number = found.0

        field : RankedField
        field = ranked_field program.classes of

        field_there : slice_get (ranked_fields program.classes) number ≡ Some field
        field_there = slice_get-map (ranked_field program.classes) (fields_of program.classes) number ∙ ap (option_map (ranked_field program.classes)) found.1

        no_flag : (test : Bool) → not test ≡ true → test ≡ false
        no_flag true is = absurd (cc is)
        no_flag false is = refl

        instance : field.is_static ≡ false
        instance = no_flag field.is_static (and_parts (of.class == place) (not (has_flag acc_static of.member.flags.0)) found.2).1

        fronted : IsFronted program.classes
        fronted = subst IsFronted (sym (front program is)) (fronted_by is.library is.more is.is_library)

        extend : AllByRecursion ExtendsObject program.classes
        extend = all_weaker IsWellFormed ExtendsObject formed_extends program.classes (linked_formed program is)

        bare : (file : ClassFile) → slice_get program.classes 0 ≡ Some file → file.fields ≡ []
        bare = subst (λ (classes : List ClassFile). (file : ClassFile) → slice_get classes 0 ≡ Some file → file.fields ≡ []) (sym (front program is)) (bare_object is.library is.more is.is_library)

        within : place < length (hierarchy program.classes)
        within = slice_get_within (hierarchy program.classes) place (ranked program.classes file.item)
            (slice_get-map (ranked program.classes) program.classes place ∙ ap (option_map (ranked program.classes)) file_there)

        below : is_subclass (hierarchy program.classes) place place ≡ true
        below =
            own_looked (hierarchy program.classes) (length (hierarchy program.classes)) place
            (ends (hierarchy program.classes) (acyclic (hierarchy program.classes) (ranked_methods program.classes) whole.good) (named_low program.classes) place within)

        resolves : IsResolved program.classes row.name field
        resolves = record {
          class = place;
          held = ap (λ (test : Bool). if test then Some 0 else class_number program.classes row.name) plain
              ∙ kind_class program is.library is.more (front program is) is.is_library whole row.name place numbered;
          below = below;
        }

        basic_wanted : basic_of_field program number ≡ Some wanted
        basic_wanted =
            ap (λ (fields : List LinkedField). option_map (λ (field : LinkedField). field.basic) (slice_get fields number)) whole.fields
            ∙ ap (option_map (λ (field : LinkedField). field.basic)) (slice_get-map (linked_field program.kinds) (fields_of program.classes) number ∙ ap (option_map (linked_field program.kinds)) found.1)
            ∙ ap (λ (text : Option (List ℕ)). Some (basic_of program.kinds (or_none text))) listed.is.descriptor

        basic_same : basic program whole (linked_formed program is) (linked_lacks program is) fronted extend bare number field field_there instance ≡ wanted
        basic_same =
            same_Some _ wanted
            (sym (basic_is program whole (linked_formed program is) (linked_lacks program is) fronted extend bare number field field_there instance) ∙ basic_wanted)

        declared_at : field_basic program place (slot_of program.classes number) ≡ Some wanted
        declared_at =
            ap (option_and_then (basic_of_field program)) (own_slot program.classes fronted whole.good extend (linked_formed program is) bare number field field_there instance) ∙ basic_wanted

    -- a class of one field has it at the first slot
    had_first : (own : rows.Field) → row.fields ≡ own ∷ [] → HaveField program place 0 (basic_of program.kinds own.descriptor)
    had_first own one = by it.slot it.says it.has where
      it : Had (basic_of program.kinds own.descriptor)
      it = had 0 own (ap (λ (fields : List rows.Field). slice_get fields 0) one)

      by : (slot : ℕ) → SaysBasic program row.fields slot (basic_of program.kinds own.descriptor) → HaveField program place slot (basic_of program.kinds own.descriptor)
          → HaveField program place 0 (basic_of program.kinds own.descriptor)
      by zero says has = has
      by (suc slot) says has = never (sym (ap (λ (fields : List rows.Field). slice_get fields (suc slot)) one) ∙ says.there)

  said : (table : List rows.Field) (slot : ℕ) (own : rows.Field) (basic : Basic) → slice_get table slot ≡ Some own → SaysBasic program table slot basic → basic ≡ basic_of program.kinds own.descriptor
  said table slot own wanted there says = says.is ∙ ap (λ (row : rows.Field). basic_of program.kinds row.descriptor) (same_Some says.row own (sym says.there ∙ there))

  -- the fields of a class whose superclass is Object, and of one whose superclass is Number, which has none
  abbrev Lays : ℕ → CoreClass → Type 0
  Lays place row = (slot : ℕ) (basic : Basic) → field_basic program place slot ≡ Some basic → SaysBasic program row.fields slot basic

  object_lays : (place : ℕ) (row : CoreClass) → slice_get core_classes place ≡ Some row → AllByRecursion IsNoStatic row.fields → row.superclass ≡ Some names.object → Lays place row
  object_lays place row there none super = object_basic program is.library is.more (front program is) is.is_library whole place row there none super

  laid_number : (turns : ℕ) → laid is.library is.more is.is_library turns 14 ≡ []
  laid_number zero = refl
  laid_number (suc turns) =
      ap₂ (λ (supers own : List ℕ). flat_map (laid is.library is.more is.is_library turns) supers ++ own)
      (extends_to is.library is.more is.is_library 14 number_class names.object 0 refl refl refl) (own_none is.library is.more is.is_library 14 number_class refl refl)
      ∙ ap (λ (front : List ℕ). (front ++ []) ++ []) (laid_object is.library is.more is.is_library turns)

  module _ (place : ℕ) (row : CoreClass) (there : slice_get core_classes place ≡ Some row) (none : AllByRecursion IsNoStatic row.fields)
      (super : row.superclass ≡ Some names.number) where
    number_laid : (turns : ℕ) → place < turns → laid is.library is.more is.is_library turns place ≡ own_fields (ranked_fields (is.library ++ is.more)) place
    number_laid zero low = absurd (omega (arith, low))
    number_laid (suc turns) low =
        ap (λ (supers : List ℕ). flat_map (laid is.library is.more is.is_library turns) supers ++ own_fields (ranked_fields (is.library ++ is.more)) place)
        (extends_to is.library is.more is.is_library place row names.number 14 there super refl)
        ∙ ap (λ (front : List ℕ). (front ++ []) ++ own_fields (ranked_fields (is.library ++ is.more)) place) (laid_number turns)

    number_fields : object_fields (is.library ++ is.more) place ≡ own_fields (ranked_fields (is.library ++ is.more)) place
    number_fields = number_laid (length (hierarchy (is.library ++ is.more))) (rank_low is.library is.more is.is_library place row there)

    pub number_count : length (object_fields program.classes place) ≡ length row.fields
    number_count =
        ap (λ (classes : List ClassFile). length (object_fields classes place)) (front program is)
        ∙ ap (λ (numbers : List ℕ). length numbers) number_fields ∙ own_count is.library is.more is.is_library place row there none

    number_lays : Lays place row
    number_lays slot basic declared =
        option_and_then_some (basic_of_field program) (slice_get (object_fields program.classes place) slot) basic declared
        (λ number stands own.
        own_basic program is.library is.more (front program is) is.is_library whole place row there none slot number basic
        (subst (λ (own : List ℕ). slice_get own slot ≡ Some number) number_fields
        (ap (λ (classes : List ClassFile). slice_get (object_fields classes place) slot) (sym (front program is)) ∙ stands)) own)

  pub strings_have : HaveField program kind_of_string 0 (basics.Reference (characters program))
  strings_have = had_first kind_of_string string_class refl (refl, tt) refl refl (object_lays kind_of_string string_class refl (refl, tt) refl) _ refl

  pub chars_have : HaveField program library.character 0 basics.Char
  chars_have = had_first library.character character_class refl (refl, tt) refl refl (object_lays library.character character_class refl (refl, tt) refl) _ refl

  pub booleans_have : HaveField program library.boolean 0 basics.Boolean
  booleans_have = had_first library.boolean boolean_class refl (refl, tt) refl refl (object_lays library.boolean boolean_class refl (refl, tt) refl) _ refl

  pub classes_have : HaveField program kind_of_class 0 basics.Int
  classes_have = had_first kind_of_class class_class refl (refl, tt) refl refl (object_lays kind_of_class class_class refl (refl, tt) refl) _ refl

  pub builders_have : HaveField program builder 0 (basics.Reference (characters program))
  builders_have = by it.slot it.says it.has where
    it : Had builder string_builder_class refl (refl, (refl, tt)) refl refl (object_lays builder string_builder_class refl (refl, (refl, tt)) refl) (basics.Reference (characters program))
    it = had builder string_builder_class refl (refl, (refl, tt)) refl refl (object_lays builder string_builder_class refl (refl, (refl, tt)) refl) 0 _ refl

    by : (slot : ℕ) → SaysBasic program string_builder_class.fields slot (basics.Reference (characters program)) → HaveField program builder slot (basics.Reference (characters program))
        → HaveField program builder 0 (basics.Reference (characters program))
    by zero says has = has
    by (suc zero) says has = absurd (cc (said string_builder_class.fields 1 _ (basics.Reference (characters program)) refl says))
    by (suc (suc slot)) says has = never says.there

  pub counts_have : HaveField program builder 1 basics.Int
  counts_have = by it.slot it.says it.has where
    it : Had builder string_builder_class refl (refl, (refl, tt)) refl refl (object_lays builder string_builder_class refl (refl, (refl, tt)) refl) basics.Int
    it = had builder string_builder_class refl (refl, (refl, tt)) refl refl (object_lays builder string_builder_class refl (refl, (refl, tt)) refl) 1 _ refl

    by : (slot : ℕ) → SaysBasic program string_builder_class.fields slot basics.Int → HaveField program builder slot basics.Int → HaveField program builder 1 basics.Int
    by zero says has = absurd (cc (said string_builder_class.fields 0 _ basics.Int refl says))
    by (suc zero) says has = has
    by (suc (suc slot)) says has = never says.there

  pub ordinals_have : HaveField program enum 1 basics.Int
  ordinals_have = by it.slot it.says it.has where
    it : Had enum enum_class refl (refl, (refl, tt)) refl refl (object_lays enum enum_class refl (refl, (refl, tt)) refl) basics.Int
    it = had enum enum_class refl (refl, (refl, tt)) refl refl (object_lays enum enum_class refl (refl, (refl, tt)) refl) 1 _ refl

    by : (slot : ℕ) → SaysBasic program enum_class.fields slot basics.Int → HaveField program enum slot basics.Int → HaveField program enum 1 basics.Int
    by zero says has = absurd (cc (said enum_class.fields 0 _ basics.Int refl says))
    by (suc zero) says has = has
    by (suc (suc slot)) says has = never says.there

  pub integers_have : HaveField program library.integer 0 basics.Int
  integers_have = had_first library.integer integer_class refl (refl, tt) refl refl (number_lays library.integer integer_class refl (refl, tt) refl) _ refl

  pub longs_have : HaveField program library.long 0 basics.Long
  longs_have = had_first library.long long_class refl (refl, tt) refl refl (number_lays library.long long_class refl (refl, tt) refl) _ refl

  pub integer_says : (slot : ℕ) (own : Basic) → field_basic program library.integer slot ≡ Some own → (slot ≡ 0) × (own ≡ basics.Int)
  integer_says slot own declared = by slot (number_lays library.integer integer_class refl (refl, tt) refl slot own declared) where
    by : (slot : ℕ) → SaysBasic program integer_class.fields slot own → (slot ≡ 0) × (own ≡ basics.Int)
    by zero says = (refl, said integer_class.fields 0 _ own refl says)
    by (suc slot) says = never says.there

  pub long_says : (slot : ℕ) (own : Basic) → field_basic program library.long slot ≡ Some own → (slot ≡ 0) × (own ≡ basics.Long)
  long_says slot own declared = by slot (number_lays library.long long_class refl (refl, tt) refl slot own declared) where
    by : (slot : ℕ) → SaysBasic program long_class.fields slot own → (slot ≡ 0) × (own ≡ basics.Long)
    by zero says = (refl, said long_class.fields 0 _ own refl says)
    by (suc slot) says = never says.there

  -- the first field of a throwable holds a string, and the others hold none
  pub messages_have : HaveField program kind_of_throwable 0 (basics.Reference kind_of_string)
  messages_have = subst (λ (basic : Basic). HaveField program kind_of_throwable 0 basic) (string_is program is) (by it.slot it.says it.has) where
    wanted : Basic
    wanted = basic_of program.kinds (codes "Ljava/lang/String;")

    it : Had kind_of_throwable throwable_class refl (refl, (refl, (refl, tt))) refl refl (object_lays kind_of_throwable throwable_class refl (refl, (refl, (refl, tt))) refl) wanted
    it = had kind_of_throwable throwable_class refl (refl, (refl, (refl, tt))) refl refl (object_lays kind_of_throwable throwable_class refl (refl, (refl, (refl, tt))) refl) 0 _ refl

    string : IsCore program (kind_number program.kinds (codes "java/lang/String")) kind_of_string
    string = core_kind program is (codes "java/lang/String") kind_of_string refl refl

    throwable : IsCore program (kind_number program.kinds (codes "java/lang/Throwable")) kind_of_throwable
    throwable = core_kind program is (codes "java/lang/Throwable") kind_of_throwable refl refl

    array : IsArrayOf program (throwables program) (basic_of program.kinds (codes "Ljava/lang/Throwable;"))
    array = array_kind program is (codes "Ljava/lang/Throwable;") 16 refl

    kind_in_basic : Basic → ℕ
    kind_in_basic (basics.Reference kind) = kind
    kind_in_basic other = 0

    no_throwable : {P : Type 0} → wanted ≡ basic_of program.kinds (codes "Ljava/lang/Throwable;") → P
    no_throwable same =
        let kinds : kind_of_string ≡ kind_of_throwable = sym string.is ∙ ap kind_in_basic same ∙ throwable.is in
        absurd (omega (arith, kinds))

    no_array : {P : Type 0} → wanted ≡ basics.Reference (throwables program) → P
    no_array same =
        absurd (none-some _ (sym string.no_elements ∙ ap (element_of program) (sym string.is ∙ ap kind_in_basic same) ∙ array.elements))

    by : (slot : ℕ) → SaysBasic program throwable_class.fields slot wanted → HaveField program kind_of_throwable slot wanted → HaveField program kind_of_throwable 0 wanted
    by zero says has = has
    by (suc zero) says has = no_throwable (said throwable_class.fields 1 _ wanted refl says)
    by (suc (suc zero)) says has = no_array (said throwable_class.fields 2 _ wanted refl says)
    by (suc (suc (suc slot))) says has = never says.there

  -- the third field of a throwable holds an array, and the others hold none
  pub suppressed_have : HaveField program kind_of_throwable 2 (basics.Reference (throwables program))
  suppressed_have = by it.slot it.says it.has where
    wanted : Basic
    wanted = basics.Reference (throwables program)

    it : Had kind_of_throwable throwable_class refl (refl, (refl, (refl, tt))) refl refl (object_lays kind_of_throwable throwable_class refl (refl, (refl, (refl, tt))) refl) wanted
    it = had kind_of_throwable throwable_class refl (refl, (refl, (refl, tt))) refl refl (object_lays kind_of_throwable throwable_class refl (refl, (refl, (refl, tt))) refl) 2 _ refl

    array : IsArrayOf program (throwables program) (basic_of program.kinds (codes "Ljava/lang/Throwable;"))
    array = array_kind program is (codes "Ljava/lang/Throwable;") 16 refl

    kind_in_basic : Basic → ℕ
    kind_in_basic (basics.Reference kind) = kind
    kind_in_basic other = 0

    apart : {P : Type 0} (kind place : ℕ) → IsCore program kind place → wanted ≡ basics.Reference kind → P
    apart kind place core same =
        absurd (none-some _ (sym core.no_elements ∙ ap (element_of program) (sym core.is ∙ sym (ap kind_in_basic same)) ∙ array.elements))

    by : (slot : ℕ) → SaysBasic program throwable_class.fields slot wanted → HaveField program kind_of_throwable slot wanted → HaveField program kind_of_throwable 2 wanted
    by zero says has = apart _ kind_of_string (core_kind program is (codes "java/lang/String") kind_of_string refl refl) (said throwable_class.fields 0 _ wanted refl says)
    by (suc zero) says has = apart _ kind_of_throwable (core_kind program is (codes "java/lang/Throwable") kind_of_throwable refl refl) (said throwable_class.fields 1 _ wanted refl says)
    by (suc (suc zero)) says has = has
    by (suc (suc (suc slot))) says has = never says.there
