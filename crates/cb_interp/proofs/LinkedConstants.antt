-- In a linked program constants may be placed: strings, their characters and class objects have the words that the machine's step gives them,
-- texts are short, and what is named is there.
use Rattle.std.proofs.Common.{◌≡◌, ◌∙◌, ap, refl, sym, subst, arith, ℕ, ◌+◌, ◌<◌, ◌^◌, Bool, true, false, List, [], ◌∷◌, length, map, Option, Some, None, option_and_then, option_map, slice_get}
use Rattle.std.specs.Prelude.{IfSome, if◌then◌else◌}
use Rattle.std.specs.Option.{option_or}
use Rattle.std.proofs.lemmas.List.{length-append}
use Rattle.std.proofs.lemmas.Option.{option_and_then_some, same_Some, slice_get_within}
use Rattle.cb_classfile.specs.declared.field.Field.{Field}
use Rattle.cb_hierarchy.specs.declared.member.Field.{Field as RankedField}
use Rattle.cb_kinds.proofs.Laws.{text_at}
use Rattle.cb_kinds.specs.Basics.{is_reference}
use Rattle.cb_kinds.specs.Texts.{number_of}
use Rattle.cb_kinds.specs.declared.basic.Basic.{Basic}
use Rattle.cb_kinds.specs.declared.basic.Basic.TheVariants as basics
use Rattle.cb_link.proofs.Laws.{chained, either, insn_there, mapped}
use Rattle.cb_link.specs.Calls.{class_of_kind}
use Rattle.cb_link.specs.Having.{IsWhole, site_kinds}
use Rattle.cb_link.specs.Named.{IsThere, constant_named, field_named, member_named, named, named_at, or_nothing, static_initial}
use Rattle.cb_link.specs.Numbers.{Numbered, class_number, or_none, ranked_fields}
use Rattle.cb_link.specs.Program.{Linked}
use Rattle.cb_link.specs.Resolving.{found_field, found_method}
use Rattle.cb_link.specs.Slots.{basic_of_field, field_basic, is_some_reference, object_fields, shape, shape_with, slot_of, static_at}
use Rattle.cb_link.specs.declared.linked.Site.{Site}
use Rattle.cb_link.specs.declared.named.Named.{Named}
use Rattle.cb_link.specs.declared.named.Named.TheVariants as meanings
use Rattle.cb_machine.specs.Arrays.{element_of}
use Rattle.cb_machine.specs.Machine.{kind_of_site}
use Rattle.cb_machine.specs.Sites.{class_objects, constant_characters, constant_strings}
use Rattle.cb_plain.specs.declared.shape.Shape.{Shape}
use Rattle.cb_plain.specs.declared.shape.Shape.TheVariants as shapes
use Rattle.cb_plain.specs.declared.value.Value.TheVariants as values
use Rattle.cb_safety.specs.Constants.{HasClassObjects}
use Rattle.cb_safety.specs.Naming.{HasField}
use Rattle.cb_safety.specs.Performing.{HasCore}
use Rattle.cb_safety.specs.Strings.{AreStrings, HasConstants, IsText}
use Rattle.cb_text.specs.Naming.{MemberNames, class_at, int_at, long_at, member_at, string_at}
use Rattle.cb_text.specs.declared.constant.Constant.{Constant}
use Rattle.cb_text.specs.declared.naming.MemberKind.{MemberKind}
use Rattle.cb_text.specs.declared.naming.MemberKind.TheVariants as members
use Rattle.cb_interp.specs.Fit.{ShapesOf}
use Rattle.cb_interp.specs.Loading.{MayPlace, MayPlaceClass}
use Rattle.cb_interp.specs.TextStatics.{MayPlaceOwn, declared_by, text_of}
use Rattle.cb_interp.proofs.LinkedFit.{field_there, fields_shape, sites_there}

-- ---- what has one field

one_marked : (value : Bool) (numbers : List ℕ) (mark : ℕ → Bool) → 0 < length numbers
    → ((slot number : ℕ) → slice_get numbers slot ≡ Some number → (slot ≡ 0) × (mark number ≡ value)) → map mark numbers ≡ value ∷ []
one_marked value [] mark some each = absurd (omega (arith, some))
one_marked value (first ∷ []) mark some each = ap (λ (own : Bool). own ∷ []) (each 0 first refl).1
one_marked value (first ∷ second ∷ more) mark some each = let none = (each 1 second refl).0 in absurd (omega (arith, none))

module _ (program : Linked) (whole : IsWhole program) (all : List Shape) (are : ShapesOf program all) where
  pub kind_low : (kind class : ℕ) → class_of_kind program kind ≡ Some class → kind < length program.kinds
  kind_low kind class is =
      option_and_then_some (class_number program.classes) (slice_get program.kinds kind) class is
      (λ name named numbered. slice_get_within program.kinds kind name named)

  pub one_field : (value : Bool) (kind : ℕ) (basic : Basic) (has : HasField program kind 0 basic)
      → ((slot : ℕ) (own : Basic) → field_basic program has.class slot ≡ Some own → (slot ≡ 0) × (is_reference own ≡ value))
      → shape program kind ≡ shapes.Fields (value ∷ [])
  one_field value kind basic has fits =
      fields_shape program whole all are kind has.class has.classed
      ∙ ap shapes.Fields
      (one_marked value (object_fields program.classes has.class) (λ number. is_some_reference (basic_of_field program number))
      (option_and_then_some (basic_of_field program) (slice_get (object_fields program.classes has.class) 0) basic has.declared
      (λ number there own. slice_get_within (object_fields program.classes has.class) 0 number there))
      (λ slot number there.
      let (own, is) = field_there program whole all are has.class slot number there in
      let so = fits slot own (ap (option_and_then (basic_of_field program)) there ∙ is) in
      (so.0, ap is_some_reference is ∙ so.1)))

  pub elements_shape : (kind : ℕ) (basic : Basic) → element_of program kind ≡ Some basic → shape program kind ≡ shapes.Elements (is_reference basic)
  elements_shape kind basic elements = ap (shape_with program (or_none (slice_get program.kinds kind))) elements

  -- ---- a text

  short : (found : Option (List ℕ)) → ((units : List ℕ) → found ≡ Some units → IsText units) → length (or_none found) < 2 ^ 32
  short None texts = omega arith
  short (Some units) texts = let few = (texts units refl).few in omega (arith, few)

  pub text_placed : HasConstants program → HasCore program → (text : ℕ) → MayPlace program text
  text_placed has core text =
      let strings : AreStrings program (kind_of_site program constant_strings) (kind_of_site program constant_characters) = has.strings in
      let field = core.strings (kind_of_site program constant_strings) strings.string in
      record {
        few = short (slice_get program.constants text) (has.texts text);
        sites = sites_there program whole all are constant_characters (omega arith);
        characters = strings.low;
        strings = kind_low (kind_of_site program constant_strings) field.class field.classed;
        elements = elements_shape (kind_of_site program constant_characters) basics.Char strings.elements;
        field = one_field true (kind_of_site program constant_strings) _ field
            (λ slot own is. let holds = strings.fields field.class slot own field.classed is in (holds.first, ap is_reference holds.is));
      }

  pub class_placed : HasClassObjects program → HasCore program → MayPlaceClass program
  class_placed has core =
      let field = core.numbers (kind_of_site program class_objects) has.objects.class_object in
      record {
        sites = sites_there program whole all are class_objects (omega arith);
        low = kind_low (kind_of_site program class_objects) field.class field.classed;
        field = one_field false (kind_of_site program class_objects) basics.Int field
            (λ slot own is. let holds = has.objects.fields field.class slot own field.classed is in (holds.0, ap is_reference holds.1));
      }

-- ---- a text that is named is there

module _ (program : Linked) where
  abbrev Low : Named → Type 0
  Low (meanings.Text text) = text < length program.constants
  Low other = Unit {0}

  each_some : {X : Type 0} (P : X → Type 0) → ((x : X) → P x) → (some : Option X) → IfSome some P
  each_some P each None = tt
  each_some P each (Some x) = each x

  text_low : (text : List ℕ) → IfSome (number_of program.constants text) (λ number. number < length program.constants)
  text_low text = go (number_of program.constants text) refl where
    go : (some : Option ℕ) → number_of program.constants text ≡ some → IfSome some (λ number. number < length program.constants)
    go None is = tt
    go (Some number) is = slice_get_within program.constants number text (text_at program.constants text number is)

  abbrev as_field : ℕ → Option RankedField → Named
  as_field number None = meanings.Nothing
  as_field number (Some field) =
      if field.is_static then meanings.Static field.declared.class (slot_of program.classes number) else meanings.Field field.declared.class (slot_of program.classes number)

  field_low : (number : ℕ) → Low (field_named program.classes number)
  field_low number = go (slice_get (ranked_fields program.classes) number) where
    by : (field : RankedField) (static : Bool)
        → Low (if static then meanings.Static field.declared.class (slot_of program.classes number) else meanings.Field field.declared.class (slot_of program.classes number))
    by field true = tt
    by field false = tt

    go : (found : Option RankedField) → Low (as_field number found)
    go None = tt
    go (Some field) = by field field.is_static

  member_low : (member : MemberNames) → IfSome (member_named program.classes member) Low
  member_low member = go member.kind refl where
    go : (kind : MemberKind) → member.kind ≡ kind → IfSome (member_named program.classes member) Low
    go members.Field is =
        rw is
        (mapped Low (field_named program.classes) (found_field program.classes member)
        (each_some (λ number. Low (field_named program.classes number)) field_low (found_field program.classes member)))
    go members.Method is = rw is (mapped Low meanings.Method (found_method program.classes member) (each_some (λ number. Unit {0}) (λ number. tt) (found_method program.classes member)))
    go members.InterfaceMethod is =
        rw is (mapped Low meanings.Method (found_method program.classes member) (each_some (λ number. Unit {0}) (λ number. tt) (found_method program.classes member)))

  constant_low : (pool : List Constant) (index : ℕ) → IfSome (constant_named program.classes program.kinds program.constants pool index) Low
  constant_low pool index =
      let ints : Option Named = option_map (λ number. meanings.Whole (values.Int number)) (int_at pool index) in
      let longs : Option Named = option_map (λ number. meanings.Whole (values.Long number)) (long_at pool index) in
      let texts : Option Named = option_map meanings.Text (option_and_then (number_of program.constants) (string_at pool index)) in
      let kinds : Option Named = option_map meanings.Kind (option_and_then (number_of program.kinds) (class_at pool index)) in
      let members : Option Named = option_and_then (member_named program.classes) (member_at pool index) in
      either Low ints (option_or longs (option_or texts (option_or kinds members)))
      (mapped Low (λ number. meanings.Whole (values.Int number)) (int_at pool index) (each_some (λ number. Unit {0}) (λ number. tt) (int_at pool index)))
      (either Low longs (option_or texts (option_or kinds members))
      (mapped Low (λ number. meanings.Whole (values.Long number)) (long_at pool index) (each_some (λ number. Unit {0}) (λ number. tt) (long_at pool index)))
      (either Low texts (option_or kinds members)
      (mapped Low meanings.Text (option_and_then (number_of program.constants) (string_at pool index))
      (chained (λ number. number < length program.constants) (number_of program.constants) (string_at pool index) text_low))
      (either Low kinds members
      (mapped Low meanings.Kind (option_and_then (number_of program.kinds) (class_at pool index))
      (each_some (λ number. Unit {0}) (λ number. tt) (option_and_then (number_of program.kinds) (class_at pool index))))
      (chained Low (member_named program.classes) (member_at pool index) member_low))))

  nothing_or : (some : Option Named) → IfSome some Low → Low (or_nothing some)
  nothing_or None is = tt
  nothing_or (Some other) is = is

  named_low : (pool : List Constant) (index : Option ℕ) → Low (named_at program pool index)
  named_low pool index =
      nothing_or (option_and_then (constant_named program.classes program.kinds program.constants pool) index)
      (chained Low (constant_named program.classes program.kinds program.constants pool) index (constant_low pool))

  initial_low : (slot : ℕ) → Low (static_initial program slot)
  initial_low slot = go (static_at program slot) refl where
    go : (found : Option (Numbered Field)) → static_at program slot ≡ found → Low (static_initial program slot)
    go None is = rw is tt
    go (Some field) is = rw is (named_low field.pool field.member.constant)

  text_in : (named : Named) (text : ℕ) → text_of named ≡ Some text → Low named → text < length program.constants
  text_in (meanings.Text own) text is low = subst (λ (text : ℕ). text < length program.constants) (same_Some own text is) low
  text_in other text is low = absurd (cc is)

  own_low : (test : Bool) (named : Named) (text : ℕ) → (if test then text_of named else None) ≡ Some text → Low named → text < length program.constants
  own_low true named text is low = text_in named text is low
  own_low false named text is low = absurd (cc is)

  pub own_placed : (class : ℕ) → ((text : ℕ) → MayPlace program text) → MayPlaceOwn program class
  own_placed class may slot text within is = (own_low (declared_by class (static_at program slot)) (static_initial program slot) text is (initial_low slot), may text)

-- ---- of a linked program

pub message_there : (program : Linked) → IsWhole program → 0 < length program.constants
message_there program whole = subst (λ (texts : List (List ℕ)). 0 < length texts) (sym whole.texts) (omega arith)

pub names_there : (program : Linked) → IsWhole program → (method pc : ℕ) → IsThere program (named program method pc)
names_there program whole method pc = insn_there program whole method pc

sites_low : (program : Linked) → IsWhole program → (site : ℕ) → site < 32 → site < length (site_kinds program)
sites_low program whole site low =
    let fixed : length program.fixed ≡ 32 = ap (λ (fixed : List ℕ). length fixed) whole.fixed in
    let both : length (site_kinds program) ≡ length program.fixed + length (map (λ (site : Site). site.kind) program.sites) =
    length-append program.fixed (map (λ (site : Site). site.kind) program.sites) in
    omega (arith, low, fixed, both)

pub characters_there : (program : Linked) → IsWhole program → constant_characters < length (site_kinds program)
characters_there program whole = sites_low program whole constant_characters (omega arith)
