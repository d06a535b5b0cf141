-- What a program has to say of the exception that keeps another one: the initialisation of a class has failed by it (JVMS §5.5).
use Rattle.std.specs.Prelude.{◌≡◌, ℕ, Some}
use Rattle.cb_kinds.specs.declared.basic.Basic.{Basic}
use Rattle.cb_kinds.specs.declared.basic.Basic.TheVariants as basics
use Rattle.cb_link.specs.Calls.{class_of_kind}
use Rattle.cb_link.specs.Program.{Linked}
use Rattle.cb_link.specs.Slots.{field_basic}
use Rattle.cb_machine.specs.Machine.{kind_of_site}
use Rattle.cb_machine.specs.Sites.{exception_in_initializer}
use Rattle.cb_verify.specs.Within.{kind_of_throwable}

-- the cause, which is its second field, is a Throwable
abbrev pub KeepsCause : Linked → Type 0
KeepsCause program = (class : ℕ) (basic : Basic) → class_of_kind program (kind_of_site program exception_in_initializer) ≡ Some class
    → field_basic program class 1 ≡ Some basic → basic ≡ basics.Reference kind_of_throwable
