-- The sites and the words of the objects of a kind.
use Rattle.std.proofs.Common.{◌≡◌, ◌∙◌, ap, ap₂, arith, refl, sym, ℕ, ◌<◌, Bool, true, false, List, [], length, Option, Some, None, slice_get}
use Rattle.std.proofs.lemmas.Bool.{false≢true}
use Rattle.std.proofs.lemmas.List.{length-map}
use Rattle.std.proofs.lemmas.Option.{option_and_then_some, slice_get_within}
use Rattle.cb_kinds.specs.Basics.{is_reference}
use Rattle.cb_kinds.specs.declared.basic.Basic.{Basic}
use Rattle.cb_link.specs.Calls.{class_of_kind}
use Rattle.cb_link.specs.Having.{site_kinds}
use Rattle.cb_link.specs.Numbers.{class_number, or_none}
use Rattle.cb_link.specs.Program.{Linked}
use Rattle.cb_link.specs.Slots.{basic_of_field, field_marks, is_some_reference, object_fields, shape, shape_with}
use Rattle.cb_machine.specs.Arrays.{element_of}
use Rattle.cb_machine.specs.Machine.{or_zero}
use Rattle.cb_plain.specs.declared.shape.Shape.{Shape}
use Rattle.cb_plain.specs.declared.shape.Shape.TheVariants as shapes
use Rattle.cb_safety.specs.Placed.{IsSited, IsSized}

-- a site that isn't there counts as one of the first kind, and no other
pub later_sited : (program : Linked) (kind : ℕ) → 0 < kind → IsSited program kind
later_sited program kind later site is = go (slice_get (site_kinds program) site) refl is where
  go : (found : Option ℕ) → slice_get (site_kinds program) site ≡ found → or_zero found ≡ kind → site < length (site_kinds program)
  go None there is = let first : 0 ≡ kind = is in absurd (omega (arith, first, later))
  go (Some own) there is = slice_get_within (site_kinds program) site own there

abbrev marks_in : Shape → List Bool
marks_in (shapes.Fields marks) = marks
marks_in (shapes.Elements mark) = []

abbrev has_fields : Shape → Bool
has_fields (shapes.Fields marks) = true
has_fields (shapes.Elements mark) = false

-- an object of a class has a word for each field
class_shape : (program : Linked) (kind class : ℕ) → element_of program kind ≡ None → class_of_kind program kind ≡ Some class
    → shape program kind ≡ shapes.Fields (field_marks program (Some class))
class_shape program kind class no_elements classed =
    option_and_then_some (class_number program.classes) (slice_get program.kinds kind) class classed
    (λ name named numbered. ap₂ (λ (name : List ℕ) (component : Option Basic). shape_with program name component) (ap or_none named) no_elements
    ∙ ap (λ (class : Option ℕ). shapes.Fields (field_marks program class)) numbered)

pub class_sized : (program : Linked) (kind class count : ℕ) → element_of program kind ≡ None → class_of_kind program kind ≡ Some class
    → length (object_fields program.classes class) ≡ count → IsSized program kind count
class_sized program kind class count no_elements classed counted marks is =
    ap length (sym (ap marks_in (sym (class_shape program kind class no_elements classed) ∙ is)))
    ∙ length-map (object_fields program.classes class) (λ (number : ℕ). is_some_reference (basic_of_field program number)) ∙ counted

-- of an array nothing is asked
pub array_sized : {count : ℕ} (program : Linked) (kind : ℕ) (basic : Basic) → element_of program kind ≡ Some basic → IsSized program kind count
array_sized program kind basic elements marks is =
    let own : shape program kind ≡ shapes.Elements (is_reference basic) = ap (shape_with program (or_none (slice_get program.kinds kind))) elements in
    absurd (false≢true (ap has_fields (sym own ∙ is)))
