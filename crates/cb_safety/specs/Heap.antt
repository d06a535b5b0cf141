-- Objects that are as their kinds say.
use Rattle.std.specs.Prelude.{◌≡◌, ◌<◌, ◌≤◌, ℕ, Bool, List, Option, Some, length, slice_get}
use Rattle.std.specs.List.{AllByRecursion}
use Rattle.cb_kinds.specs.declared.basic.Basic.{Basic}
use Rattle.cb_link.specs.Calls.{class_of_kind}
use Rattle.cb_link.specs.Having.{site_kinds}
use Rattle.cb_link.specs.Program.{Linked}
use Rattle.cb_link.specs.Slots.{field_basic, shape}
use Rattle.cb_machine.specs.Arrays.{element_of}
use Rattle.cb_machine.specs.Performing.{most_elements}
use Rattle.cb_plain.specs.State.{Content, Number, Object, Reference}
use Rattle.cb_plain.specs.Updates.{object_in}
use Rattle.cb_plain.specs.declared.shape.Shape.TheVariants.{Fields}
use Rattle.cb_plain.specs.declared.value.Value.TheVariants as values
use Rattle.cb_safety.specs.Held.{HasContent}
use Rattle.cb_safety.specs.Kinds.{IsKnown, Kinds, kinds_of}

-- a word is there, with what it may hold
pub record Holds (program : Linked) (kinds : Kinds) (contents : List Content) (place : ℕ) (basic : Basic) : Type 0 where
  pub content : Content
  pub there : slice_get contents place ≡ Some content
  pub fits : HasContent program kinds basic content

-- a word is known where it holds a number, null, or the serial of an object
abbrev pub IsKnownWord : Kinds → Content → Type 0
IsKnownWord kinds (Number number) = Unit {0}
IsKnownWord kinds (Reference serial) = IsKnown kinds (values.Ref serial)

-- its site is one of the program's, and an object of a class has a word for each field and no other; each field of an object of a class, and each
-- element of an array, of which an int says how many there are (JVMS §2.4; §6.5, newarray)
pub record IsObject (program : Linked) (kinds : Kinds) (object : Object) : Type 0 where
  pub kind : object.kind < length program.kinds
  pub site : object.site < length (site_kinds program)
  pub sized : (marks : List Bool) → shape program object.kind ≡ Fields marks → length marks ≡ length object.contents
  pub fields : (class slot : ℕ) → (basic : Basic) → class_of_kind program object.kind ≡ Some class → field_basic program class slot ≡ Some basic →
      Holds program kinds object.contents slot basic
  pub elements : (basic : Basic) → (place : ℕ) → element_of program object.kind ≡ Some basic → place < length object.contents →
      Holds program kinds object.contents place basic
  pub few : (basic : Basic) → element_of program object.kind ≡ Some basic → length object.contents ≤ most_elements
  pub words : AllByRecursion (IsKnownWord kinds) object.contents

-- each object that is there is as it should be; of others nothing is asked
pub record IsHeap (program : Linked) (objects : List (Option Object)) : Type 0 where
  pub each : (serial : ℕ) → (object : Object) → object_in objects serial ≡ Some object → IsObject program (kinds_of objects) object
