-- A program that is linked is whole, and each of its classes is well formed.
use Rattle.std.proofs.Common.{◌≡◌, ap, sym, subst, List, ◌++◌, None}
use Rattle.std.specs.List.{AllByRecursion}
use Rattle.cb_classfile.specs.Class.{IsWellFormed}
use Rattle.cb_classfile.specs.declared.class.ClassFile.{ClassFile}
use Rattle.cb_link.proofs.WholeLaws.{whole_program}
use Rattle.cb_link.specs.Having.{HasOwnName, IsWhole}
use Rattle.cb_link.specs.Judging.{IsProgram}
use Rattle.cb_link.specs.Lacking.{first_lacking}
use Rattle.cb_link.specs.Numbers.{name_of}
use Rattle.cb_link.specs.Program.{Linked}
use Rattle.cb_safety.specs.Advancing.{HoldsOn, HoldsOwn}
use Rattle.cb_safety.specs.Linked.{IsLinked}
use Rattle.cb_safety.proofs.Clean.{own_class_name}
use Rattle.cb_safety.proofs.Holding.{holds_goes}
use Rattle.cb_safety.proofs.Lettered.{plain_name, whole_holds_own}
use Rattle.cb_safety.proofs.Lists.{all_both}
use Rattle.cb_safety.proofs.Ordered.{program_order}
use Rattle.cb_safety.proofs.Searching.{all_weaker}

own_name : (class : ClassFile) → IsWellFormed class → HasOwnName class
own_name class formed = plain_name (name_of class) (own_class_name class formed)

module _ (program : Linked) (is : IsLinked program) where
  abbrev all_classes : List ClassFile
  all_classes = is.library ++ is.more

  pub front : program.classes ≡ is.library ++ is.more
  front = ap (λ (program : Linked). program.classes) is.all

  all_formed : AllByRecursion IsWellFormed (is.library ++ is.more)
  all_formed = all_both IsWellFormed is.library is.more is.library_formed is.well_formed

  pub linked_formed : AllByRecursion IsWellFormed program.classes
  linked_formed = subst (AllByRecursion IsWellFormed) (sym front) all_formed

  pub linked_whole : IsWhole program
  linked_whole =
      subst IsWhole (sym is.all)
      (whole_program (is.library ++ is.more) is.main is.method is.good (all_weaker IsWellFormed HasOwnName own_name (is.library ++ is.more) all_formed))

  pub linked_good : IsProgram program.classes is.main is.method
  linked_good = subst (λ (classes : List ClassFile). IsProgram classes is.main is.method) (sym front) is.good

  pub linked_lacks : first_lacking program.classes ≡ None
  linked_lacks = linked_good.whole

  pub linked_begins : program.main_method ≡ is.method
  linked_begins = ap (λ (program : Linked). program.main_method) is.all

  pub linked_holds : HoldsOn program
  linked_holds = holds_goes program (program_order program is.library is.more front is.is_library is.well_formed linked_whole)

  pub linked_holds_own : HoldsOwn program
  linked_holds_own = whole_holds_own program linked_whole linked_formed
