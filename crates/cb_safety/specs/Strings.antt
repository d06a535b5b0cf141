-- What a program has to say of the strings that the machine places, and of what static fields have at first (JVMS §4.7.2, §5.1).
use Rattle.std.specs.Prelude.{◌≡◌, ◌<◌, ◌≤◌, ◌^◌, ℕ, ℤ, FitsSigned, true, List, Some, None, length, slice_get}
use Rattle.std.specs.Int.{w32, w64}
use Rattle.std.specs.List.{AllByRecursion}
use Rattle.cb_kinds.specs.declared.basic.Basic.{Basic}
use Rattle.cb_kinds.specs.declared.basic.Basic.TheVariants as basics
use Rattle.cb_link.specs.Calls.{class_of_kind}
use Rattle.cb_link.specs.Named.{static_initial}
use Rattle.cb_link.specs.Program.{Linked}
use Rattle.cb_link.specs.Slots.{field_basic, static_basic}
use Rattle.cb_link.specs.declared.named.Named.{Named}
use Rattle.cb_link.specs.declared.named.Named.TheVariants as meanings
use Rattle.cb_machine.specs.Arrays.{element_of}
use Rattle.cb_machine.specs.Machine.{kind_of_site}
use Rattle.cb_machine.specs.Performing.{most_elements}
use Rattle.cb_machine.specs.Sites.{constant_characters, constant_strings}
use Rattle.cb_machine.specs.Values.{sort_of_basic}
use Rattle.cb_plain.specs.declared.value.Value.TheVariants as values
use Rattle.cb_shapes.specs.declared.sort.Sort.TheVariants as sorts
use Rattle.cb_verify.specs.Within.{kind_of_string}
use Rattle.cb_safety.specs.Kinds.{holds_kind}
use Rattle.cb_safety.specs.Placed.{IsSited, IsSized}

-- a field of a string is the first, and may hold its array of characters
pub record HoldsCharacters (program : Linked) (characters slot : ℕ) (basic : Basic) : Type 0 where
  pub first : slot ≡ 0
  pub kind : ℕ
  pub is : basic ≡ basics.Reference kind
  pub goes : holds_kind program characters kind ≡ true

-- objects of a kind are strings with arrays of chars of another kind: that is their only field
pub record AreStrings (program : Linked) (kind characters : ℕ) : Type 0 where
  pub string : holds_kind program kind kind_of_string ≡ true
  pub fields : (class slot : ℕ) → (basic : Basic) → class_of_kind program kind ≡ Some class → field_basic program class slot ≡ Some basic →
      HoldsCharacters program characters slot basic
  pub no_elements : element_of program kind ≡ None
  pub sited : IsSited program kind
  pub sized : IsSized program kind 1
  pub low : characters < length program.kinds
  pub no_class : class_of_kind program characters ≡ None
  pub elements : element_of program characters ≡ Some basics.Char
  pub characters_sited : IsSited program characters

-- the units of a text, each of two bytes, and no more than an array has elements
pub record IsText (units : List ℕ) : Type 0 where
  pub each : AllByRecursion (λ unit. unit < 2 ^ 16) units
  pub few : length units ≤ most_elements

-- what a constant gives to a field of a type at first (§4.7.2)
pub data IsInitial : Basic → Named → Type 0 where
  Nothing : (basic : Basic) → IsInitial basic meanings.Nothing
  ALong : (number : ℤ) → FitsSigned w64 number → IsInitial basics.Long (meanings.Whole (values.Long number))
  AnInt : (basic : Basic) → (number : ℤ) → sort_of_basic basic ≡ sorts.Int → FitsSigned w32 number → IsInitial basic (meanings.Whole (values.Int number))
  AString : (text : ℕ) → IsInitial (basics.Reference kind_of_string) (meanings.Text text)

-- the constants of a program are strings of texts, and what they give to static fields is of their types
pub record HasConstants (program : Linked) : Type 0 where
  pub strings : AreStrings program (kind_of_site program constant_strings) (kind_of_site program constant_characters)
  pub texts : (text : ℕ) → (units : List ℕ) → slice_get program.constants text ≡ Some units → IsText units
  pub initial : (slot : ℕ) → (basic : Basic) → static_basic program slot ≡ Some basic → IsInitial basic (static_initial program slot)
