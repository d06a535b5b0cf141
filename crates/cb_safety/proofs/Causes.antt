-- The second of Throwable's fields, which is the cause, is a Throwable.
use Rattle.std.proofs.Common.{◌≡◌, ◌∙◌, ap, ap₂, arith, refl, sym, ℕ, List, ◌++◌, Some, option_and_then, slice_get}
use Rattle.std.specs.Prelude.{codes}
use Rattle.std.proofs.lemmas.Option.{option_and_then_some, same_Some}
use Rattle.cb_classfile.specs.Library.{AreLibrary}
use Rattle.cb_classfile.specs.declared.class.ClassFile.{ClassFile}
use Rattle.cb_kinds.proofs.Laws.{kind_number_of}
use Rattle.cb_kinds.specs.Basics.{basic_of}
use Rattle.cb_kinds.specs.declared.basic.Basic.{Basic}
use Rattle.cb_kinds.specs.declared.basic.Basic.TheVariants as basics
use Rattle.cb_library.specs.Throwables.{throwable_class}
use Rattle.cb_link.specs.Calls.{class_of_kind}
use Rattle.cb_link.specs.Having.{IsWhole}
use Rattle.cb_link.specs.Numbers.{class_number}
use Rattle.cb_link.specs.Program.{Linked}
use Rattle.cb_link.specs.Slots.{basic_of_field, object_fields}
use Rattle.cb_machine.specs.Machine.{kind_of_site}
use Rattle.cb_machine.specs.Sites as sites
use Rattle.cb_verify.specs.Within.{kind_of_throwable}
use Rattle.cb_safety.specs.Causes.{KeepsCause}
use Rattle.cb_safety.proofs.CoreFields.{SaysBasic, own_basic}
use Rattle.cb_safety.proofs.Exceptions.{RowFits, fixed_site, kind_class, kind_numbered, kind_there, row_from, slot_of_throwable}

module _ (program : Linked) (library more : List ClassFile) (front : program.classes ≡ library ++ more) (are : AreLibrary library) (whole : IsWhole program) where
  cause_is : (basic : Basic) → SaysBasic program throwable_class.fields 1 basic → basic ≡ basics.Reference kind_of_throwable
  cause_is basic says =
      says.is ∙ ap (λ (text : List ℕ). basic_of program.kinds text) (ap (λ row. row.descriptor) (sym (same_Some _ says.row says.there)))
      ∙ ap basics.Reference (kind_number_of program.kinds (codes "java/lang/Throwable") kind_of_throwable
      (kind_numbered program library more front are whole (codes "java/lang/Throwable") kind_of_throwable refl))

  site_is : kind_of_site program sites.exception_in_initializer ≡ 42
  site_is =
      fixed_site program library more front are whole sites.exception_in_initializer
      ∙ kind_number_of program.kinds (codes "java/lang/ExceptionInInitializerError") 42
      (kind_numbered program library more front are whole (codes "java/lang/ExceptionInInitializerError") 42 refl)

  fits : RowFits 42
  fits = row_from 42 (omega arith) (omega arith)

  class_is : (class : ℕ) → class_of_kind program (kind_of_site program sites.exception_in_initializer) ≡ Some class → 42 ≡ class
  class_is class classed =
      same_Some 42 class
      (sym (ap (class_of_kind program) site_is ∙ ap (option_and_then (class_number program.classes)) (kind_there program library more front are whole 42 fits)
      ∙ kind_class program library more front are whole fits.row.name 42 fits.numbered)
      ∙ classed)

  pub keeps_cause : KeepsCause program
  keeps_cause class basic classed declared =
      option_and_then_some (basic_of_field program) (slice_get (object_fields program.classes class) 1) basic declared
      (λ number stands own.
      cause_is basic
      (own_basic program library more front are whole kind_of_throwable throwable_class refl (refl, (refl, (refl, tt))) 1 number basic
      (slot_of_throwable library more are 42 1 number fits (omega arith)
      (ap₂ (λ (classes : List ClassFile) (class : ℕ). slice_get (object_fields classes class) 1) (sym front) (class_is class classed) ∙ stands))
      own))
