-- What a program has to say of the constants that its instructions load, and of the message of a division by zero (JVMS §5.1, §6.5 ldc,
-- idiv).
use Rattle.std.specs.Prelude.{◌≡◌, ◌≤◌, ◌^◌, ℕ, true, Some, None, length}
use Rattle.cb_kinds.specs.declared.basic.Basic.{Basic}
use Rattle.cb_kinds.specs.declared.basic.Basic.TheVariants as basics
use Rattle.cb_link.specs.Calls.{class_of_kind}
use Rattle.cb_link.specs.Program.{Linked}
use Rattle.cb_link.specs.Slots.{field_basic}
use Rattle.cb_machine.specs.Arrays.{element_of}
use Rattle.cb_machine.specs.Machine.{kind_of_site}
use Rattle.cb_machine.specs.Sites.{arithmetic, class_objects}
use Rattle.cb_verify.specs.Within.{kind_of_class, kind_of_string}
use Rattle.cb_safety.specs.Kinds.{holds_kind}
use Rattle.cb_safety.specs.Placed.{IsSited, IsSized}

-- objects of a kind are class objects: their only field is the first, an int
pub record AreClassObjects (program : Linked) (kind : ℕ) : Type 0 where
  pub class_object : holds_kind program kind kind_of_class ≡ true
  pub fields : (class slot : ℕ) → (basic : Basic) → class_of_kind program kind ≡ Some class → field_basic program class slot ≡ Some basic →
      (slot ≡ 0) × (basic ≡ basics.Int)
  pub no_elements : element_of program kind ≡ None
  pub sited : IsSited program kind
  pub sized : IsSized program kind 1

-- those that the machine places hold the numbers of kinds, which ints can say
pub record HasClassObjects (program : Linked) : Type 0 where
  pub objects : AreClassObjects program (kind_of_site program class_objects)
  pub few : length program.kinds ≤ 2 ^ 31

-- the first field of an object of a kind is a String: of an exception it is the message
abbrev pub TakesMessage : Linked → ℕ → Type 0
TakesMessage program kind = (class : ℕ) → (basic : Basic) → class_of_kind program kind ≡ Some class → field_basic program class 0 ≡ Some basic
    → basic ≡ basics.Reference kind_of_string

-- what a division by zero throws has one
abbrev pub HasMessage : Linked → Type 0
HasMessage program = TakesMessage program (kind_of_site program arithmetic)
