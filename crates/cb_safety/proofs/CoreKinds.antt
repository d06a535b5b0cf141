-- The kinds of objects that the machine places: of the library's classes and of arrays, in a program that is linked.
use Rattle.std.proofs.Common.{◌≡◌, ◌∙◌, ap, arith, refl, sym, subst, ℕ, zero, suc, ◌<◌, false, true, List, [], ◌∷◌, ◌++◌, length, map, Option, Some, None, option_and_then, slice_get}
use Rattle.std.specs.Prelude.{codes}
use Rattle.std.specs.List.{AllByRecursion, flat_map, list_any}
use Rattle.std.proofs.lemmas.Bool.{false≢true}
use Rattle.std.proofs.lemmas.Option.{option_and_then_some, same_Some}
use Rattle.cb_classfile.specs.declared.class.ClassFile.{ClassFile}
use Rattle.cb_kinds.proofs.Laws.{kind_number_of, text_at}
use Rattle.cb_kinds.specs.Basics.{basic_of, component_of, kind_number}
use Rattle.cb_kinds.specs.Kinds.{is_array, kinds_of_name}
use Rattle.cb_kinds.specs.Texts.{number_of, same_text}
use Rattle.cb_kinds.specs.declared.basic.Basic.{Basic}
use Rattle.cb_kinds.specs.declared.basic.Basic.TheVariants as basics
use Rattle.cb_library.specs.Lang.{class_class}
use Rattle.cb_library.specs.Text.{input_stream_class, print_stream_class, string_class}
use Rattle.cb_library.specs.Throwables.{throwable_class}
use Rattle.cb_link.proofs.Laws.{all_named}
use Rattle.cb_link.specs.Calls.{class_of_kind}
use Rattle.cb_link.specs.Having.{IsWhole}
use Rattle.cb_link.specs.Making.{class_kinds, fixed_kinds}
use Rattle.cb_link.specs.Numbers.{class_number, name_of, or_none}
use Rattle.cb_link.specs.Program.{Linked}
use Rattle.cb_link.specs.Slots.{basic_of_field, field_basic, object_fields}
use Rattle.cb_machine.specs.Arrays.{element_of}
use Rattle.cb_link.specs.declared.linked.Site.{Site}
use Rattle.cb_machine.specs.Machine.{kind_of_site, or_zero}
use Rattle.cb_machine.specs.Sites as sites
use Rattle.cb_names.specs.Signs.{bracket}
use Rattle.cb_verify.specs.Within.{kind_of_class, kind_of_string, kind_of_throwable}
use Rattle.cb_safety.specs.Constants.{AreClassObjects, HasMessage}
use Rattle.cb_safety.specs.Kinds.{holds_kind}
use Rattle.cb_safety.specs.Linked.{IsLinked}
use Rattle.cb_safety.specs.Placed.{IsSized}
use Rattle.cb_safety.specs.Starting.{AreArguments, AreEmpty}
use Rattle.cb_safety.specs.Strings.{AreStrings, HoldsCharacters}
use Rattle.cb_safety.proofs.Assigned.{never}
use Rattle.cb_safety.proofs.CoreFields.{SaysBasic, object_basic, object_count, own_basic}
use Rattle.cb_safety.proofs.Exceptions.{RowFits, core_names, fixed_site, kind_class, kind_numbered, row_from, slot_of_throwable}
use Rattle.cb_safety.proofs.Fielded.{no_component}
use Rattle.cb_safety.proofs.Kinded.{IsNumbered, numbered_of}
use Rattle.cb_safety.proofs.Linking.{front, linked_holds_own, linked_whole}
use Rattle.cb_safety.proofs.Lists.{all_at}
use Rattle.cb_safety.proofs.Located.{all_parts}
use Rattle.cb_safety.proofs.Ordered.{number_low}
use Rattle.cb_safety.proofs.Parts.{no_class_named}
use Rattle.cb_safety.proofs.Placed.{class_sized, later_sited}

-- a kind of a class of the library
pub record IsCore (program : Linked) (kind place : ℕ) : Type 0 where
  pub is : kind ≡ place
  pub low : place < length program.kinds
  pub own : holds_kind program place place ≡ true
  pub classed : class_of_kind program place ≡ Some place
  pub no_elements : element_of program place ≡ None

-- a kind of an array of elements of a type
pub record IsArrayOf (program : Linked) (kind : ℕ) (basic : Basic) : Type 0 where
  pub low : kind < length program.kinds
  pub own : holds_kind program kind kind ≡ true
  pub no_class : class_of_kind program kind ≡ None
  pub elements : element_of program kind ≡ Some basic
  pub later : 0 < kind

-- the kinds of the machine's own sites, with those of their elements
abbrev fixed_names : List (List ℕ)
fixed_names = flat_map kinds_of_name fixed_kinds

module _ (program : Linked) (is : IsLinked program) where
  whole : IsWhole program
  whole = linked_whole program is

  pub core_number : (name : List ℕ) (place : ℕ) → number_of core_names name ≡ Some place → number_of program.kinds name ≡ Some place
  core_number name place numbered = kind_numbered program is.library is.more (front program is) is.is_library whole name place numbered

  pub core_kind : (name : List ℕ) (place : ℕ) → number_of core_names name ≡ Some place → is_array name ≡ false → IsCore program (kind_number program.kinds name) place
  core_kind name place numbered plain =
      let number : number_of program.kinds name ≡ Some place = core_number name place numbered in
      let low : place < length program.kinds = number_low program.kinds name place number in
      let there : slice_get program.kinds place ≡ Some name = text_at program.kinds name place number in
      record {
        is = kind_number_of program.kinds name place number;
        low = low;
        own = linked_holds_own program is place low;
        classed = ap (option_and_then (class_number program.classes)) there ∙ kind_class program is.library is.more (front program is) is.is_library whole name place numbered;
        no_elements = ap (λ (found : Option (List ℕ)). component_of program.kinds (or_none found)) there ∙ no_component program.kinds name plain;
      }

  abbrev Among : List ℕ → Type 0
  Among name = list_any (same_text name) program.kinds ≡ true

  fixed_among : AllByRecursion Among fixed_names
  fixed_among =
      let named : List (List ℕ) = map name_of program.classes ++ flat_map class_kinds program.classes in
      (all_parts Among named fixed_names
      (subst (λ (texts : List (List ℕ)). AllByRecursion (λ name. list_any (same_text name) texts ≡ true) (named ++ fixed_names)) (sym whole.kinds) (all_named program.classes))).1

  -- the first kind is Object's
  object_there : slice_get program.kinds 0 ≡ Some (codes "java/lang/Object")
  object_there = text_at program.kinds (codes "java/lang/Object") 0 (core_number (codes "java/lang/Object") 0 refl)

  array_later : (kind : ℕ) (rest : List ℕ) → slice_get program.kinds kind ≡ Some (bracket ∷ rest) → 0 < kind
  array_later zero rest there =
      absurd (false≢true (ap is_array (same_Some (codes "java/lang/Object") (bracket ∷ rest) (sym object_there ∙ there))))
  array_later (suc kind) rest there = omega arith

  pub array_kind : (rest : List ℕ) (place : ℕ) → slice_get fixed_names place ≡ Some (bracket ∷ rest) → IsArrayOf program (kind_number program.kinds (bracket ∷ rest)) (basic_of program.kinds rest)
  array_kind rest place among =
      let numbered : IsNumbered program.kinds (bracket ∷ rest) = numbered_of program.kinds (bracket ∷ rest) (all_at Among fixed_names place (bracket ∷ rest) fixed_among among) in
      let there : slice_get program.kinds numbered.number ≡ Some (bracket ∷ rest) = text_at program.kinds (bracket ∷ rest) numbered.number numbered.is in
      subst (λ (kind : ℕ). IsArrayOf program kind (basic_of program.kinds rest)) (sym (kind_number_of program.kinds (bracket ∷ rest) numbered.number numbered.is))
      (record {
        low = numbered.low;
        own = linked_holds_own program is numbered.number numbered.low;
        no_class = ap (option_and_then (class_number program.classes)) there ∙ no_class_named program.classes rest whole.named;
        elements = ap (λ (found : Option (List ℕ)). component_of program.kinds (or_none found)) there;
        later = array_later numbered.number rest there;
      })

  pub site_kind : (site : ℕ) → kind_of_site program site ≡ or_zero (slice_get (map (kind_number program.kinds) fixed_kinds ++ map (λ (site : Site). site.kind) program.sites) site)
  site_kind site = fixed_site program is.library is.more (front program is) is.is_library whole site

  -- an object of a class of the library has so many words as that lays out
  pub core_sized : (kind place count : ℕ) → IsCore program kind place → length (object_fields program.classes place) ≡ count → IsSized program place count
  core_sized kind place count core counted = class_sized program place place count core.no_elements core.classed counted

  -- ---- strings

  abbrev string_name : List ℕ
  string_name = codes "java/lang/String"

  abbrev characters : ℕ
  characters = kind_number program.kinds (codes "[C")

  string_kind : IsCore program (kind_number program.kinds string_name) kind_of_string
  string_kind = core_kind string_name kind_of_string refl refl

  pub string_is : basic_of program.kinds (codes "Ljava/lang/String;") ≡ basics.Reference kind_of_string
  string_is = ap basics.Reference string_kind.is

  pub char_kind : IsArrayOf program characters basics.Char
  char_kind = array_kind (codes "C") 3 refl

  pub of_class : (kind place class : ℕ) → IsCore program kind place → class_of_kind program place ≡ Some class → place ≡ class
  of_class kind place class core classed = same_Some place class (sym core.classed ∙ classed)

  string_field : (slot : ℕ) (basic : Basic) → SaysBasic program string_class.fields slot basic → HoldsCharacters program characters slot basic
  string_field zero basic says = record {
    first = refl;
    kind = characters;
    is = says.is ∙ ap (λ (text : List ℕ). basic_of program.kinds text) (ap (λ row. row.descriptor) (sym (same_Some _ says.row says.there)));
    goes = char_kind.own;
  }
  string_field (suc slot) basic says = never says.there

  strings_are : AreStrings program kind_of_string characters
  strings_are = record {
    string = string_kind.own;
    fields = λ class slot basic classed declared.
        string_field slot basic
        (object_basic program is.library is.more (front program is) is.is_library whole kind_of_string string_class refl (refl, tt) refl slot basic
        (ap (λ (class : ℕ). field_basic program class slot) (of_class _ kind_of_string class string_kind classed) ∙ declared));
    no_elements = string_kind.no_elements;
    sited = later_sited program kind_of_string (omega arith);
    sized = core_sized (kind_number program.kinds string_name) kind_of_string 1 string_kind
        (object_count program is.library is.more (front program is) is.is_library whole kind_of_string string_class refl (refl, tt) refl);
    low = char_kind.low;
    no_class = char_kind.no_class;
    elements = char_kind.elements;
    characters_sited = later_sited program characters char_kind.later;
  }

  pub strings_at : (strings characters_at : ℕ) → kind_of_site program strings ≡ kind_number program.kinds string_name → kind_of_site program characters_at ≡ characters
      → AreStrings program (kind_of_site program strings) (kind_of_site program characters_at)
  strings_at strings characters_at one other =
      subst (λ (kind : ℕ). AreStrings program kind (kind_of_site program characters_at)) (sym (one ∙ string_kind.is))
      (subst (AreStrings program kind_of_string) (sym other) strings_are)

  pub constant_strings : AreStrings program (kind_of_site program sites.constant_strings) (kind_of_site program sites.constant_characters)
  constant_strings = strings_at sites.constant_strings sites.constant_characters (site_kind sites.constant_strings) (site_kind sites.constant_characters)

  pub argument_strings : AreStrings program (kind_of_site program sites.argument_strings) (kind_of_site program sites.argument_characters)
  argument_strings = strings_at sites.argument_strings sites.argument_characters (site_kind sites.argument_strings) (site_kind sites.argument_characters)

  pub are_arguments : AreArguments program (kind_of_site program sites.arguments)
  are_arguments =
      let array : IsArrayOf program (kind_number program.kinds (codes "[Ljava/lang/String;")) (basic_of program.kinds (codes "Ljava/lang/String;")) = array_kind (codes "Ljava/lang/String;") 0 refl in
      subst (AreArguments program) (sym (site_kind sites.arguments))
      (record {
        low = array.low;
        own = array.own;
        elements = array.elements ∙ ap {B = Option Basic} Some string_is;
        no_class = array.no_class;
        sited = later_sited program (kind_number program.kinds (codes "[Ljava/lang/String;")) array.later;
      })

  -- ---- objects without fields

  empty_at : (site place : ℕ) (core : IsCore program (kind_of_site program site) place) → 0 < place → length (object_fields program.classes place) ≡ 0
      → ((slot : ℕ) (basic : Basic) → ¬ (field_basic program place slot ≡ Some basic)) → AreEmpty program (kind_of_site program site)
  empty_at site place core later counted none =
      subst (AreEmpty program) (sym core.is)
      (record {
        low = core.low;
        no_fields = λ class slot basic classed declared. none slot basic (ap (λ (class : ℕ). field_basic program class slot) (of_class _ place class core classed) ∙ declared);
        no_elements = core.no_elements;
        sited = later_sited program place later;
        sized = core_sized (kind_of_site program site) place 0 core counted;
      })

  none_said : (slot : ℕ) (basic : Basic) → SaysBasic program [] slot basic → ⊥
  none_said slot basic says = never says.there

  pub out_kind : IsCore program (kind_of_site program sites.system_out) 12
  out_kind =
      subst (λ (kind : ℕ). IsCore program kind 12) (sym (site_kind sites.system_out)) (core_kind (codes "java/io/PrintStream") 12 refl refl)

  pub in_kind : IsCore program (kind_of_site program sites.system_in) 13
  in_kind =
      subst (λ (kind : ℕ). IsCore program kind 13) (sym (site_kind sites.system_in)) (core_kind (codes "java/io/InputStream") 13 refl refl)

  pub out_empty : AreEmpty program (kind_of_site program sites.system_out)
  out_empty =
      empty_at sites.system_out 12 out_kind (omega arith)
      (object_count program is.library is.more (front program is) is.is_library whole 12 print_stream_class refl tt refl)
      (λ slot basic declared. none_said slot basic
      (object_basic program is.library is.more (front program is) is.is_library whole 12 print_stream_class refl tt refl slot basic declared))

  pub in_empty : AreEmpty program (kind_of_site program sites.system_in)
  in_empty =
      empty_at sites.system_in 13 in_kind (omega arith)
      (object_count program is.library is.more (front program is) is.is_library whole 13 input_stream_class refl tt refl)
      (λ slot basic declared. none_said slot basic
      (object_basic program is.library is.more (front program is) is.is_library whole 13 input_stream_class refl tt refl slot basic declared))

  -- ---- class objects

  class_field : (slot : ℕ) (basic : Basic) → SaysBasic program class_class.fields slot basic → (slot ≡ 0) × (basic ≡ basics.Int)
  class_field zero basic says =
      (refl, says.is ∙ ap (λ (text : List ℕ). basic_of program.kinds text) (ap (λ row. row.descriptor) (sym (same_Some _ says.row says.there))))
  class_field (suc slot) basic says = never says.there

  pub class_objects : AreClassObjects program (kind_of_site program sites.class_objects)
  class_objects =
      let core : IsCore program (kind_number program.kinds (codes "java/lang/Class")) kind_of_class = core_kind (codes "java/lang/Class") kind_of_class refl refl in
      subst (AreClassObjects program) (sym (site_kind sites.class_objects ∙ core.is))
      (record {
        class_object = core.own;
        fields = λ class slot basic classed declared.
            class_field slot basic
            (object_basic program is.library is.more (front program is) is.is_library whole kind_of_class class_class refl (refl, tt) refl slot basic
            (ap (λ (class : ℕ). field_basic program class slot) (of_class _ kind_of_class class core classed) ∙ declared));
        no_elements = core.no_elements;
        sited = later_sited program kind_of_class (omega arith);
        sized = core_sized (kind_number program.kinds (codes "java/lang/Class")) kind_of_class 1 core
            (object_count program is.library is.more (front program is) is.is_library whole kind_of_class class_class refl (refl, tt) refl);
      })

  -- ---- the message of an exception

  message_is : (basic : Basic) → SaysBasic program throwable_class.fields 0 basic → basic ≡ basics.Reference kind_of_string
  message_is basic says =
      says.is ∙ ap (λ (text : List ℕ). basic_of program.kinds text) (ap (λ row. row.descriptor) (sym (same_Some _ says.row says.there))) ∙ string_is

  pub has_message : HasMessage program
  has_message class basic classed declared =
      let core : IsCore program (kind_number program.kinds (codes "java/lang/ArithmeticException")) 26 = core_kind (codes "java/lang/ArithmeticException") 26 refl refl in
      let fits : RowFits 26 = row_from 26 (omega arith) (omega arith) in
      let class_is : 26 ≡ class =
      of_class _ 26 class core (ap (class_of_kind program) (sym (site_kind sites.arithmetic ∙ core.is)) ∙ classed) in
      option_and_then_some (basic_of_field program) (slice_get (object_fields program.classes class) 0) basic declared
      (λ number stands own. message_is basic
      (own_basic program is.library is.more (front program is) is.is_library whole kind_of_throwable throwable_class refl (refl, (refl, (refl, tt))) 0 number basic
      (slot_of_throwable is.library is.more is.is_library 26 0 number fits (omega arith)
      (ap (λ (class : ℕ). slice_get (object_fields (is.library ++ is.more) class) 0) class_is
      ∙ ap (λ (classes : List ClassFile). slice_get (object_fields classes class) 0) (sym (front program is)) ∙ stands)) own))
