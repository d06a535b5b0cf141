-- What a program has to say of the exceptions that the machine throws.
use Rattle.std.specs.Prelude.{◌≡◌, ◌<◌, ℕ, true, List, [], ◌∷◌, Some, None}
use Rattle.std.specs.List.{Contains}
use Rattle.cb_kinds.specs.Basics.{is_reference}
use Rattle.cb_kinds.specs.declared.basic.Basic.{Basic}
use Rattle.cb_link.specs.Calls.{class_of_kind}
use Rattle.cb_link.specs.Program.{Linked}
use Rattle.cb_link.specs.Slots.{field_basic}
use Rattle.cb_machine.specs.Arrays.{element_of}
use Rattle.cb_machine.specs.Machine.{kind_of_site}
use Rattle.cb_machine.specs.Sites.{abstract_method, arithmetic, array_index, array_store, class_cast, exception_in_initializer, incompatible_class_change, negative_size, no_class_definition, null_pointer, stack_overflow}
use Rattle.cb_verify.specs.Within.{kind_of_throwable}
use Rattle.cb_safety.specs.Kinds.{holds_kind}
use Rattle.cb_safety.specs.Placed.{IsSited, IsSized}

-- objects of a kind are Throwable and no arrays, and their fields are three references: the message, the cause and what was suppressed
pub record IsThrown (program : Linked) (kind : ℕ) : Type 0 where
  pub throwable : holds_kind program kind kind_of_throwable ≡ true
  pub fields : (class slot : ℕ) → (basic : Basic) → class_of_kind program kind ≡ Some class → field_basic program class slot ≡ Some basic →
      (slot < 3) × (is_reference basic ≡ true)
  pub no_elements : element_of program kind ≡ None
  pub sited : IsSited program kind
  pub sized : IsSized program kind 3

-- the sites of the exceptions that the machine throws itself, and that what it places at each is one
abbrev pub thrown_sites : List ℕ
thrown_sites =
    null_pointer ∷ arithmetic ∷ array_index ∷ negative_size ∷ array_store ∷ class_cast ∷ stack_overflow ∷ exception_in_initializer
    ∷ no_class_definition ∷ incompatible_class_change ∷ abstract_method ∷ []

abbrev pub AreThrown : Linked → Type 0
AreThrown program = (site : ℕ) → Contains thrown_sites site → IsThrown program (kind_of_site program site)
