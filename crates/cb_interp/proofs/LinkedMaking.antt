-- In a linked program what natives place has the words that they write: strings and arrays of chars, boxes, and class objects.
use Rattle.std.proofs.Common.{◌≡◌, ◌∙◌, ap, arith, refl, ℕ, Bool, true, false, List, [], ◌∷◌, Some, slice_get}
use Rattle.cb_kinds.specs.Basics.{is_reference}
use Rattle.cb_kinds.specs.declared.basic.Basic.{Basic}
use Rattle.cb_kinds.specs.declared.basic.Basic.TheVariants as basics
use Rattle.cb_link.specs.Having.{IsWhole}
use Rattle.cb_link.specs.Program.{Linked}
use Rattle.cb_link.specs.Slots.{field_basic}
use Rattle.cb_machine.specs.Arrays.{element_of}
use Rattle.cb_machine.specs.Machine.{kind_of_site}
use Rattle.cb_machine.specs.Sites as sites
use Rattle.cb_natives.specs.Making.{MayMake}
use Rattle.cb_natives.specs.MakingArrays.{MayHold}
use Rattle.cb_plain.specs.declared.shape.Shape.{Shape}
use Rattle.cb_plain.specs.declared.shape.Shape.TheVariants as shapes
use Rattle.cb_safety.specs.Naming.{HasField}
use Rattle.cb_safety.specs.Performing.{AreBoxes, HasNatives}
use Rattle.cb_verify.specs.Within.{kind_of_throwable}
use Rattle.cb_interp.specs.Fit.{ShapesOf}
use Rattle.cb_interp.proofs.LinkedConstants.{elements_shape, kind_low, one_field}
use Rattle.cb_interp.proofs.LinkedFit.{kind_there, sites_there}

module _ (program : Linked) (whole : IsWhole program) (all : List Shape) (are : ShapesOf program all) where
  array_so : (kind : ℕ) (basic : Basic) → element_of program kind ≡ Some basic → slice_get all kind ≡ Some (shapes.Elements (is_reference basic))
  array_so kind basic elements =
      kind_there program whole all are kind (slice_get program.kinds kind) refl basic elements ∙ ap Some (elements_shape program whole all are kind basic elements)

  object_so : (value : Bool) (kind : ℕ) (basic : Basic) (has : HasField program kind 0 basic)
      → ((slot : ℕ) (own : Basic) → field_basic program has.class slot ≡ Some own → (slot ≡ 0) × (is_reference own ≡ value))
      → slice_get all kind ≡ Some (shapes.Fields (value ∷ []))
  object_so value kind basic has fits = are kind (kind_low program whole all are kind has.class has.classed) ∙ ap Some (one_field program whole all are value kind basic has fits)

  box_so : (kind own : ℕ) (basic : Basic) → is_reference basic ≡ false → AreBoxes program kind own basic → HasField program kind 0 basic
      → slice_get all kind ≡ Some (shapes.Fields (false ∷ []))
  box_so kind own basic number boxes has =
      object_so false kind basic has (λ slot declared is. let holds = boxes.fields has.class slot declared has.classed is in (holds.0, ap is_reference holds.1 ∙ number))

  pub may_make : HasNatives program → MayMake program all
  may_make has =
      let last = sites_there program whole all are 31 (omega arith) in
      let string = has.core.strings (kind_of_site program sites.made_strings) has.texts.string in
      let class = has.core.numbers (kind_of_site program sites.class_objects) has.class_objects.objects.class_object in
      record {
        sites = omega (arith, last);
        strings = object_so true (kind_of_site program sites.made_strings) _ string
            (λ slot own is. let holds = has.texts.fields string.class slot own string.classed is in (holds.first, ap is_reference holds.is));
        characters = array_so (kind_of_site program sites.made_characters) basics.Char has.texts.elements;
        builders = array_so (kind_of_site program sites.builder_characters) basics.Char has.built.elements;
        classes = object_so false (kind_of_site program sites.class_objects) basics.Int class
            (λ slot own is. let holds = has.class_objects.objects.fields class.class slot own class.classed is in (holds.0, ap is_reference holds.1));
        integers = box_so (kind_of_site program sites.integers) _ basics.Int refl has.int_boxes (has.core.integers (kind_of_site program sites.integers) has.int_boxes.box);
        longs = box_so (kind_of_site program sites.longs) _ basics.Long refl has.long_boxes (has.core.longs (kind_of_site program sites.longs) has.long_boxes.box);
        boxed_characters = box_so (kind_of_site program sites.characters) _ basics.Char refl has.char_boxes (has.core.chars (kind_of_site program sites.characters) has.char_boxes.box);
        booleans = box_so (kind_of_site program sites.booleans) _ basics.Boolean refl has.boolean_boxes (has.core.booleans (kind_of_site program sites.booleans) has.boolean_boxes.box);
      }

  -- the store has the shapes of the program's kinds
  pub may_hold : HasNatives program → MayHold program all
  may_hold has = record { suppressed = array_so (kind_of_site program sites.suppressed) (basics.Reference kind_of_throwable) has.suppressed.elements; each = are }
