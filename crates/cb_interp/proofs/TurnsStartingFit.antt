-- Each linked program has what is asked of it for a start.
use Rattle.std.proofs.Common.{◌≡◌, ◌∙◌, ap, refl, subst, arith, ℕ, ◌+◌, ◌<◌, ◌≤◌, ◌^◌, Bool, true, List, [], ◌∷◌, get_or, length, map, replicate, Option, Some, None, option_and_then, slice_get}
use Rattle.std.proofs.lemmas.List.{length-append}
use Rattle.std.proofs.lemmas.Option.{option_and_then_some, slice_get-get_or, slice_get_within}
use Rattle.std.proofs.lemmas.Slice.Zip.{AllZip-long}
use Rattle.cb_classfile.specs.Library.{IsRecordOf}
use Rattle.cb_kinds.specs.Basics.{is_reference}
use Rattle.cb_kinds.specs.declared.basic.Basic.{Basic}
use Rattle.cb_kinds.specs.declared.basic.Basic.TheVariants as basics
use Rattle.cb_library.specs.CoreClasses.{core_classes}
use Rattle.cb_link.specs.Calls.{class_of_kind}
use Rattle.cb_link.specs.Having.{IsWhole}
use Rattle.cb_link.specs.Numbers.{class_number, or_none}
use Rattle.cb_link.specs.Program.{Linked}
use Rattle.cb_link.specs.Slots.{basic_of_field, field_marks, is_some_reference, object_fields, shape, shape_with}
use Rattle.cb_machine.specs.Creating.{blank_element}
use Rattle.cb_machine.specs.Machine.{kind_of_site}
use Rattle.cb_machine.specs.Sites.{argument_characters, argument_strings, arguments, system_in, system_out}
use Rattle.cb_plain.specs.State.{Content, Reference}
use Rattle.cb_plain.specs.declared.shape.Shape.{Shape}
use Rattle.cb_plain.specs.declared.shape.Shape.TheVariants as shapes
use Rattle.cb_safety.specs.Linked.{IsLinked}
use Rattle.cb_safety.specs.Naming.{HasField}
use Rattle.cb_safety.specs.Performing.{HaveField}
use Rattle.cb_safety.specs.Starting.{AreArguments, AreEmpty, HasStart}
use Rattle.cb_safety.specs.Strings.{AreStrings}
use Rattle.cb_verify.specs.Within.{kind_of_string}
use Rattle.cb_interp.specs.Arguments.{MayHold}
use Rattle.cb_interp.specs.Fit.{IsPlacedAs, ShapesOf}
use Rattle.cb_interp.specs.Starting.{MayStart}
use Rattle.cb_interp.proofs.LinkedFit.{arrays_fit, field_there, fields_shape, sites_there}

-- there are few classes
pub few_classes : (program : Linked) → IsLinked program → length program.classes < 2 ^ 32
few_classes program is =
    let counted : length is.library ≡ 50 = AllZip-long IsRecordOf core_classes is.library is.is_library in
    let both : length program.classes ≡ length is.library + length is.more =
    ap (λ (program : Linked). length program.classes) is.all ∙ length-append is.library is.more in
    let few : 50 + length is.more ≤ 1024 = is.few in
    omega (arith, counted, both, few)

module _ (program : Linked) (whole : IsWhole program) (all : List Shape) (are : ShapesOf program all) where
  -- a class whose objects have no fields has no marks
  no_marks : (kind : ℕ) → AreEmpty program kind → (class : Option ℕ) → class_of_kind program kind ≡ class → field_marks program class ≡ []
  no_marks kind empty None is = refl
  no_marks kind empty (Some class) is = go (object_fields program.classes class) refl where
    go : (numbers : List ℕ) → object_fields program.classes class ≡ numbers → field_marks program (Some class) ≡ []
    go [] same = rw same refl
    go (number ∷ numbers) same =
        let there : slice_get (object_fields program.classes class) 0 ≡ Some number = ap (λ (fields : List ℕ). slice_get fields 0) same in
        let (basic, own) = field_there program whole all are class 0 number there in
        absurd (empty.no_fields class 0 basic is (ap (option_and_then (basic_of_field program)) there ∙ own))

  no_fields : (kind : ℕ) → AreEmpty program kind → shape program kind ≡ shapes.Fields []
  no_fields kind empty =
      let name : List ℕ = get_or program.kinds kind [] in
      let there : slice_get program.kinds kind ≡ Some name = slice_get-get_or program.kinds kind [] empty.low in
      ap (shape_with program (or_none (slice_get program.kinds kind))) empty.no_elements
      ∙ ap (λ (found : Option (List ℕ)). shapes.Fields (field_marks program (class_number program.classes (or_none found)))) there
      ∙ ap shapes.Fields (no_marks kind empty (class_number program.classes name) (ap (option_and_then (class_number program.classes)) there))

  bare_fits : (site kind : ℕ) → AreEmpty program kind → IsPlacedAs all site kind 0 []
  bare_fits site kind empty =
      let is : slice_get all kind ≡ Some (shapes.Fields []) = are kind empty.low ∙ ap {B = Option Shape} Some (no_fields kind empty) in
      record { sized = rw is refl; shaped = rw is refl }

  array_fits : AreArguments program (kind_of_site program arguments) → (size : ℕ)
      → IsPlacedAs all arguments (kind_of_site program arguments) size (replicate size (Reference 0))
  array_fits are_arguments size =
      let blank : blank_element program (kind_of_site program arguments) ≡ Reference 0 = rw are_arguments.elements refl in
      subst (λ (content : Content). IsPlacedAs all arguments (kind_of_site program arguments) size (replicate size content)) blank
      (arrays_fit program whole all are arguments (kind_of_site program arguments) size (basics.Reference kind_of_string) are_arguments.elements)

  -- strings have one word, which refers to an array of chars
  one : (numbers : List ℕ) (mark : ℕ → Bool) → 0 < length numbers → ((slot number : ℕ) → slice_get numbers slot ≡ Some number → (slot ≡ 0) × (mark number ≡ true))
      → map mark numbers ≡ true ∷ []
  one [] mark some each = absurd (omega (arith, some))
  one (first ∷ []) mark some each = rw ((each 0 first refl).1) refl
  one (first ∷ second ∷ numbers) mark some each = let low = (each 1 second refl).0 in absurd (omega (arith, low))

  string_marks : (kind characters : ℕ) → AreStrings program kind characters → (basic : Basic) → (has : HasField program kind 0 basic) → field_marks program (Some has.class) ≡ true ∷ []
  string_marks kind characters are_strings basic has =
      one (object_fields program.classes has.class) (λ number. is_some_reference (basic_of_field program number))
      (option_and_then_some (basic_of_field program) (slice_get (object_fields program.classes has.class) 0) basic has.declared
      (λ number there own. slice_get_within (object_fields program.classes has.class) 0 number there))
      (λ slot number there.
      let (own, is) = field_there program whole all are has.class slot number there in
      let holds = are_strings.fields has.class slot own has.classed (ap (option_and_then (basic_of_field program)) there ∙ is) in
      (holds.first, ap is_some_reference is ∙ ap is_reference holds.is))

  may_hold : AreStrings program (kind_of_site program argument_strings) (kind_of_site program argument_characters) → (basic : Basic)
      → HaveField program kind_of_string 0 basic → MayHold program all
  may_hold are_strings basic have =
      let kind : ℕ = kind_of_site program argument_strings in
      let array : ℕ = kind_of_site program argument_characters in
      let has : HasField program kind 0 basic = have kind are_strings.string in
      let low : kind < length program.kinds = option_and_then_some (class_number program.classes) (slice_get program.kinds kind) has.class has.classed
      (λ name named numbered. slice_get_within program.kinds kind name named) in
      record {
        strings = sites_there program whole all are argument_strings (omega arith);
        characters = sites_there program whole all are argument_characters (omega arith);
        elements = are array are_strings.low
            ∙ ap {B = Option Shape} Some (ap (shape_with program (or_none (slice_get program.kinds array))) are_strings.elements);
        field = are kind low
            ∙ ap {B = Option Shape} Some (fields_shape program whole all are kind has.class has.classed
            ∙ ap shapes.Fields (string_marks kind array are_strings basic has));
      }

  pub may_start : IsLinked program → HasStart program → (basic : Basic) → HaveField program kind_of_string 0 basic → MayStart program all
  may_start linked has basic have = record {
    few = few_classes program linked;
    sites = sites_there program whole all are;
    array = array_fits has.array;
    strings = may_hold has.strings basic have;
    out = bare_fits system_out (kind_of_site program system_out) has.out;
    input = bare_fits system_in (kind_of_site program system_in) has.input;
    first = has.first;
    second = has.second;
    slots = has.slots;
  }
