-- What natives ask of a program, of which much holds of each that is linked and typed.
use Rattle.std.proofs.Common.{◌≡◌, ◌∙◌, ◌<◌, ◌≤◌, ap, arith, refl, sym, subst, ℕ, zero, suc, length, List, Some, map, ◌++◌, true, slice_get, Option}
use Rattle.std.specs.Prelude.{codes}
use Rattle.std.specs.List.{AllByRecursion}
use Rattle.std.proofs.lemmas.Option.{same_Some}
use Rattle.std.specs.List.{flat_map, list_any}
use Rattle.cb_classfile.specs.Library.{IsRecordOf, SaysMethod}
use Rattle.cb_classfile.specs.declared.class.ClassFile.{ClassFile}
use Rattle.cb_text.specs.declared.constant.Constant.{Constant}
use Rattle.cb_kinds.proofs.Laws.{kind_number_of, text_at as text_numbered}
use Rattle.cb_kinds.specs.Descriptors.{types_of}
use Rattle.cb_kinds.specs.Kinds.{kinds_of_name, kinds_of_type}
use Rattle.cb_kinds.specs.Texts.{same_text}
use Rattle.cb_library.specs.Flags.{public}
use Rattle.cb_library.specs.Rows as rows
use Rattle.cb_library.specs.Rows.{native}
use Rattle.cb_library.specs.Text.{input_stream_class}
use Rattle.cb_library.specs.declared.native.Native.TheVariants as natives
use Rattle.cb_link.proofs.Laws.{all_named}
use Rattle.cb_link.specs.Making.{body_kinds, class_kinds, descriptor_kinds, field_kinds, fixed_kinds, method_kinds}
use Rattle.cb_link.specs.Numbers.{name_of, or_none}
use Rattle.cb_machine.specs.Arrays.{element_of}
use Rattle.cb_kinds.specs.Basics.{component_of, basic_of, kind_number}
use Rattle.cb_kinds.specs.Texts.{number_of}
use Rattle.cb_kinds.specs.declared.basic.Basic.{Basic}
use Rattle.cb_kinds.specs.declared.basic.Basic.TheVariants as basics
use Rattle.cb_library.specs.Boxes.{boolean_class, character_class, integer_class, long_class}
use Rattle.cb_link.specs.Having.{IsWhole}
use Rattle.cb_link.specs.Program.{Linked}
use Rattle.cb_link.specs.Slots.{field_basic, object_fields}
use Rattle.cb_machine.specs.Library as library
use Rattle.cb_machine.specs.Machine.{kind_of_site}
use Rattle.cb_machine.specs.Sites as sites
use Rattle.cb_verify.specs.Typed.{IsTyped}
use Rattle.cb_verify.specs.Within.{kind_of_throwable}
use Rattle.cb_safety.specs.Linked.{IsLinked}
use Rattle.cb_safety.specs.Performing.{AreArrays, AreBoxes, HasNatives, native_sites}
use Rattle.cb_safety.specs.Signatures.{bytes, characters, throwables}
use Rattle.cb_safety.specs.Sound.{IsSound}
use Rattle.cb_safety.specs.Throwing.{IsThrown}
use Rattle.cb_safety.proofs.Assigned.{never}
use Rattle.cb_safety.proofs.CoreFields.{SaysBasic, object_basic, object_count}
use Rattle.cb_safety.proofs.CoreKinds.{IsArrayOf, IsCore, array_kind, char_kind, core_kind, core_sized, of_class, site_kind, strings_at}
use Rattle.cb_safety.proofs.EnumConstants.{has_enums}
use Rattle.cb_safety.proofs.Exceptions.{IsRow, core_names, file_at, thrown_at, zipped_at}
use Rattle.cb_safety.proofs.KindNames.{names_low}
use Rattle.cb_safety.proofs.LibraryNatives.{have_signatures}
use Rattle.cb_safety.proofs.LibraryFields.{booleans_have, builders_have, chars_have, classes_have, counts_have, integer_says, integers_have, long_says, longs_have, messages_have, number_count, ordinals_have, strings_have, suppressed_have}
use Rattle.cb_safety.proofs.Kinded.{IsNumbered, numbered_of}
use Rattle.cb_safety.proofs.Located.{all_part, all_parts}
use Rattle.cb_safety.proofs.Linking.{front, linked_whole}
use Rattle.cb_safety.proofs.Placed.{later_sited}
use Rattle.cb_safety.proofs.Searching.{all_each}
use Rattle.cb_safety.proofs.Sound.{linked_sound}

abbrev read_range : rows.Method
read_range = native public (codes "read") (codes "([BII)I") natives.ReadRange

module _ (program : Linked) (is : IsLinked program) (typed : IsTyped program) where
  whole : IsWhole program
  whole = linked_whole program is

  sound : IsSound program
  sound = linked_sound program is typed

  -- ---- exceptions

  thrown_of : (site number : ℕ) (name : List ℕ) → kind_of_site program site ≡ kind_number program.kinds name → number_of core_names name ≡ Some number
      → kind_of_throwable ≤ number → number < 50 → IsThrown program (kind_of_site program site)
  thrown_of = thrown_at program is.library is.more (front program is) is.is_library whole

  all_thrown : AllByRecursion (λ site. IsThrown program (kind_of_site program site)) native_sites
  all_thrown = (
    sound.thrown sites.null_pointer (0, omega arith, refl),
    (
      sound.thrown sites.arithmetic (1, omega arith, refl),
      (
        sound.thrown sites.array_index (2, omega arith, refl),
        (
          sound.thrown sites.negative_size (3, omega arith, refl),
          (
            sound.thrown sites.array_store (4, omega arith, refl),
            (
              thrown_of sites.string_index 34 (codes "java/lang/StringIndexOutOfBoundsException") (site_kind program is sites.string_index) refl (omega arith) (omega arith),
              (
                thrown_of sites.number_format 30 (codes "java/lang/NumberFormatException") (site_kind program is sites.number_format) refl (omega arith) (omega arith),
                (
                  thrown_of sites.illegal_argument 29 (codes "java/lang/IllegalArgumentException") (site_kind program is sites.illegal_argument) refl (omega arith) (omega arith),
                  (
                    thrown_of sites.clone_not_supported 38 (codes "java/lang/CloneNotSupportedException") (site_kind program is sites.clone_not_supported) refl (omega arith) (omega arith),
                    (
                      thrown_of sites.index_out_of_bounds 32 (codes "java/lang/IndexOutOfBoundsException") (site_kind program is sites.index_out_of_bounds) refl (omega arith) (omega arith),
                      (
                        sound.thrown sites.no_class_definition (8, omega arith, refl),
                        tt,
                      ),
                    ),
                  ),
                ),
              ),
            ),
          ),
        ),
      ),
    ),
  )

  -- ---- arrays

  char_arrays : (site : ℕ) → kind_of_site program site ≡ characters program → AreArrays program (kind_of_site program site) (characters program) basics.Char
  char_arrays site same =
      let array : IsArrayOf program (characters program) basics.Char = char_kind program is in
      subst (λ (kind : ℕ). AreArrays program kind (characters program) basics.Char) (sym same) (record {
        array = array.own;
        no_class = array.no_class;
        elements = array.elements;
        sited = later_sited program (characters program) array.later;
      })

  throwable_is : basic_of program.kinds (codes "Ljava/lang/Throwable;") ≡ basics.Reference kind_of_throwable
  throwable_is = let core : IsCore program (kind_number program.kinds (codes "java/lang/Throwable")) kind_of_throwable = core_kind program is (codes "java/lang/Throwable") kind_of_throwable refl refl in ap basics.Reference core.is

  throwable_kind : IsArrayOf program (throwables program) (basics.Reference kind_of_throwable)
  throwable_kind = subst (IsArrayOf program (throwables program)) throwable_is (array_kind program is (codes "Ljava/lang/Throwable;") 16 refl)

  suppressed_arrays : AreArrays program (kind_of_site program sites.suppressed) (throwables program) (basics.Reference kind_of_throwable)
  suppressed_arrays =
      subst (λ (kind : ℕ). AreArrays program kind (throwables program) (basics.Reference kind_of_throwable)) (sym (site_kind program is sites.suppressed))
      (record {
        array = throwable_kind.own;
        no_class = throwable_kind.no_class;
        elements = throwable_kind.elements;
        sited = later_sited program (throwables program) throwable_kind.later;
      })

  -- ---- boxes

  boxes_of : (site place : ℕ) (basic : Basic) → IsCore program (kind_of_site program site) place → 0 < place → length (object_fields program.classes place) ≡ 1
      → ((slot : ℕ) (own : Basic) → field_basic program place slot ≡ Some own → (slot ≡ 0) × (own ≡ basic)) → AreBoxes program (kind_of_site program site) place basic
  boxes_of site place basic core later counted each =
      subst (λ (kind : ℕ). AreBoxes program kind place basic) (sym core.is)
      (record {
        box = core.own;
        fields = λ class slot own classed declared. each slot own (ap (λ (class : ℕ). field_basic program class slot) (of_class program is _ place class core classed) ∙ declared);
        no_elements = core.no_elements;
        sited = later_sited program place later;
        sized = core_sized program is (kind_of_site program site) place 1 core counted;
      })

  char_field : (slot : ℕ) (own : Basic) → SaysBasic program character_class.fields slot own → (slot ≡ 0) × (own ≡ basics.Char)
  char_field zero own says = (refl, says.is ∙ ap (λ (text : List ℕ). basic_of program.kinds text) (ap (λ row. row.descriptor) (sym (same_Some _ says.row says.there))))
  char_field (suc slot) own says = never says.there

  boolean_field : (slot : ℕ) (own : Basic) → SaysBasic program boolean_class.fields slot own → (slot ≡ 0) × (own ≡ basics.Boolean)
  boolean_field zero own says = (refl, says.is ∙ ap (λ (text : List ℕ). basic_of program.kinds text) (ap (λ row. row.descriptor) (sym (same_Some _ says.row says.there))))
  boolean_field (suc slot) own says = never says.there

  core_at : (site place : ℕ) (name : List ℕ) → kind_of_site program site ≡ kind_number program.kinds name → IsCore program (kind_number program.kinds name) place → IsCore program (kind_of_site program site) place
  core_at site place name same core = subst (λ (kind : ℕ). IsCore program kind place) (sym same) core

  char_boxes : AreBoxes program (kind_of_site program sites.characters) library.character basics.Char
  char_boxes =
      boxes_of sites.characters library.character basics.Char
      (core_at sites.characters library.character (codes "java/lang/Character") (site_kind program is sites.characters) (core_kind program is (codes "java/lang/Character") library.character refl refl))
      (omega arith) (object_count program is.library is.more (front program is) is.is_library whole library.character character_class refl (refl, tt) refl)
      (λ slot own declared.
      char_field slot own
      (object_basic program is.library is.more (front program is) is.is_library whole library.character character_class refl (refl, tt) refl slot own declared))

  boolean_boxes : AreBoxes program (kind_of_site program sites.booleans) library.boolean basics.Boolean
  boolean_boxes =
      boxes_of sites.booleans library.boolean basics.Boolean
      (core_at sites.booleans library.boolean (codes "java/lang/Boolean") (site_kind program is sites.booleans) (core_kind program is (codes "java/lang/Boolean") library.boolean refl refl))
      (omega arith) (object_count program is.library is.more (front program is) is.is_library whole library.boolean boolean_class refl (refl, tt) refl)
      (λ slot own declared.
      boolean_field slot own
      (object_basic program is.library is.more (front program is) is.is_library whole library.boolean boolean_class refl (refl, tt) refl slot own declared))

  int_boxes : AreBoxes program (kind_of_site program sites.integers) library.integer basics.Int
  int_boxes =
      boxes_of sites.integers library.integer basics.Int
      (core_at sites.integers library.integer (codes "java/lang/Integer") (site_kind program is sites.integers) (core_kind program is (codes "java/lang/Integer") library.integer refl refl))
      (omega arith) (number_count program is library.integer integer_class refl (refl, tt) refl)
      (integer_says program is)

  long_boxes : AreBoxes program (kind_of_site program sites.longs) library.long basics.Long
  long_boxes =
      boxes_of sites.longs library.long basics.Long
      (core_at sites.longs library.long (codes "java/lang/Long") (site_kind program is sites.longs) (core_kind program is (codes "java/lang/Long") library.long refl refl))
      (omega arith) (number_count program is library.long long_class refl (refl, tt) refl)
      (long_says program is)

  -- ---- arrays of bytes, which InputStream reads

  abbrev Among : List ℕ → Type 0
  Among name = list_any (same_text name) program.kinds ≡ true

  kinds_among : AllByRecursion Among (flat_map class_kinds program.classes)
  kinds_among =
      let named : List (List ℕ) = map name_of program.classes ++ flat_map class_kinds program.classes in
      (all_parts Among (map name_of program.classes) (flat_map class_kinds program.classes)
      (all_parts Among named (flat_map kinds_of_name fixed_kinds)
      (subst (λ (texts : List (List ℕ)). AllByRecursion (λ name. list_any (same_text name) texts ≡ true) (named ++ flat_map kinds_of_name fixed_kinds)) (sym whole.kinds) (all_named program.classes))).0).1

  input_file : IsRow IsRecordOf (is.library ++ is.more) 13 input_stream_class
  input_file = file_at is.library is.more is.is_library 13 input_stream_class refl

  byte_there : Among (codes "[B")
  byte_there =
      let pool : List Constant = input_file.item.pool in
      let row : rows.Method = read_range in
      let method : IsRow (SaysMethod pool) input_file.item.methods 1 row = zipped_at (SaysMethod pool) input_stream_class.methods input_file.item.methods 1 row input_file.is.methods refl in
      let own : AllByRecursion Among (class_kinds input_file.item) =
      all_part Among class_kinds program.classes 13 input_file.item kinds_among (ap (λ (classes : List ClassFile). slice_get classes 13) (front program is) ∙ input_file.there) in
      let all : AllByRecursion Among (method_kinds pool method.item) =
      all_part Among (method_kinds pool) input_file.item.methods 1 method.item (all_parts Among (flat_map (field_kinds pool) input_file.item.fields) (flat_map (method_kinds pool) input_file.item.methods) own).1 method.there in
      (subst (λ (text : Option (List ℕ)). AllByRecursion Among (flat_map kinds_of_type (types_of (or_none text)))) method.is.descriptor
      (all_parts Among (descriptor_kinds pool method.item.descriptor) (body_kinds pool method.item.body) all).0).0

  byte_elements : element_of program (bytes program) ≡ Some basics.Byte
  byte_elements =
      let numbered : IsNumbered program.kinds (codes "[B") = numbered_of program.kinds (codes "[B") byte_there in
      ap (element_of program) (kind_number_of program.kinds (codes "[B") numbered.number numbered.is)
      ∙ ap (λ (found : Option (List ℕ)). component_of program.kinds (or_none found)) (text_numbered program.kinds (codes "[B") numbered.number numbered.is)

  pub has_natives : HasNatives program
  has_natives = record {
    signatures = have_signatures program is;
    core = record {
      elements = sound.holds_elements;
      char_elements = let array : IsArrayOf program (characters program) basics.Char = char_kind program is in array.elements;
      byte_elements = byte_elements;
      strings = strings_have program is;
      builders = builders_have program is;
      counts = counts_have program is;
      integers = integers_have program is;
      longs = longs_have program is;
      chars = chars_have program is;
      booleans = booleans_have program is;
      ordinals = ordinals_have program is;
      numbers = classes_have program is;
      throwable_elements = throwable_kind.elements;
      messages = messages_have program is;
      suppressed_fields = suppressed_have program is;
      through = sound.holds_through;
      own = sound.holds_own;
    };
    thrown = λ site among. all_each (λ site. IsThrown program (kind_of_site program site)) native_sites site all_thrown among;
    texts = strings_at program is sites.made_strings sites.made_characters (site_kind program is sites.made_strings) (site_kind program is sites.made_characters);
    made = char_arrays sites.made_characters (site_kind program is sites.made_characters);
    built = char_arrays sites.builder_characters (site_kind program is sites.builder_characters);
    suppressed = suppressed_arrays;
    class_objects = sound.class_objects;
    int_boxes = int_boxes;
    long_boxes = long_boxes;
    char_boxes = char_boxes;
    boolean_boxes = boolean_boxes;
    constants = has_enums program is;
    names = names_low program is;
  }
