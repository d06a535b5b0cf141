-- What a linked program says of the objects that are placed, by the shapes of its kinds: they have the words that the machine's step gives
-- them (JVMS §2.3, §2.4).
use Rattle.std.specs.Prelude.{◌≡◌, ◌<◌, ℕ, true, List, length, replicate, Some, slice_get}
use Rattle.std.specs.List.{Contains}
use Rattle.cb_heap.specs.Shaped.{has_size, new_object}
use Rattle.cb_kinds.specs.declared.basic.Basic.{Basic}
use Rattle.cb_link.specs.Calls.{class_of_kind}
use Rattle.cb_link.specs.Having.{site_kinds}
use Rattle.cb_link.specs.Program.{Linked}
use Rattle.cb_link.specs.Slots.{shape}
use Rattle.cb_machine.specs.Arrays.{element_of}
use Rattle.cb_machine.specs.Creating.{blank_element, blank_fields}
use Rattle.cb_machine.specs.Machine.{kind_of_site}
use Rattle.cb_machine.specs.Plans.{object_of}
use Rattle.cb_machine.specs.Throwing.{exception_contents}
use Rattle.cb_plain.specs.State.{Content}
use Rattle.cb_plain.specs.declared.shape.Shape.{Shape}
use Rattle.cb_safety.specs.Throwing.{IsThrown, thrown_sites}
use Rattle.cb_act.specs.Placing.{exception_size}

-- the shapes of its kinds
abbrev pub ShapesOf : Linked → List Shape → Type 0
ShapesOf program shapes = (kind : ℕ) → kind < length program.kinds → slice_get shapes kind ≡ Some (shape program kind)

-- a new object of so many words may be of the kind, and holds this
pub record IsPlacedAs (shapes : List Shape) (site kind size : ℕ) (contents : List Content) : Type 0 where
  pub sized : has_size shapes kind size ≡ true
  pub shaped : new_object shapes site kind size ≡ object_of site kind contents

-- so it is of the exceptions that the machine and its natives throw, which have a site each, of the objects of a class, and of arrays
pub record IsThrownAs (program : Linked) (shapes : List Shape) (site : ℕ) : Type 0 where
  pub there : site < length (site_kinds program)
  pub placed : IsPlacedAs shapes site (kind_of_site program site) exception_size (exception_contents 0 0)

abbrev pub ThrowablesFit : Linked → List Shape → Type 0
ThrowablesFit program shapes = (site : ℕ) → site < 32 → IsThrown program (kind_of_site program site) → IsThrownAs program shapes site

abbrev pub ExceptionsFit : Linked → List Shape → Type 0
ExceptionsFit program shapes = (site : ℕ) → Contains thrown_sites site → IsThrownAs program shapes site

abbrev pub ObjectsFit : Linked → List Shape → Type 0
ObjectsFit program shapes =
    (site kind class : ℕ) → class_of_kind program kind ≡ Some class → IsPlacedAs shapes site kind (length (blank_fields program kind)) (blank_fields program kind)

abbrev pub ArraysFit : Linked → List Shape → Type 0
ArraysFit program shapes =
    (site kind size : ℕ) → (basic : Basic) → element_of program kind ≡ Some basic → IsPlacedAs shapes site kind size (replicate size (blank_element program kind))
