-- What is so of a program that is linked: all that calls of its methods ask for.
use Rattle.std.proofs.Common.{◌≡◌, sym, subst, None}
use Rattle.std.specs.List.{AllByRecursion}
use Rattle.cb_classfile.specs.Class.{IsWellFormed}
use Rattle.cb_link.specs.Having.{IsWhole}
use Rattle.cb_link.specs.Lacking.{first_lacking}
use Rattle.cb_link.specs.Program.{Linked}
use Rattle.cb_safety.specs.Advancing.{HoldsOn, HoldsOwn, HoldsThrough, IsSpelled}
use Rattle.cb_safety.specs.Beginning.{HasCode}
use Rattle.cb_safety.specs.Calling.{GoesAbove}
use Rattle.cb_safety.specs.ClassNames.{AreOwnKinds, HaveSuperclasses, NamedOnce}
use Rattle.cb_safety.specs.Linked.{IsLinked}
use Rattle.cb_safety.specs.Order.{HasOrder}
use Rattle.cb_safety.specs.Throwing.{AreThrown}
use Rattle.cb_safety.proofs.Coded.{well_formed_code, well_formed_spelled}
use Rattle.cb_safety.proofs.Exceptions.{are_thrown}
use Rattle.cb_safety.proofs.Linking.{front, linked_formed, linked_holds, linked_holds_own, linked_lacks, linked_whole}
use Rattle.cb_safety.proofs.Ordered.{IsFronted, fronted_by, program_order}
use Rattle.cb_safety.proofs.OwnKinds.{own_kinds}
use Rattle.cb_safety.proofs.Superclasses.{goes_above}
use Rattle.cb_safety.proofs.Through.{holds_through}

pub record Links (program : Linked) : Type 0 where
  pub whole : IsWhole program
  pub formed : AllByRecursion IsWellFormed program.classes
  pub none : first_lacking program.classes ≡ None
  pub once : NamedOnce program.classes
  pub spelled : IsSpelled program
  pub coded : HasCode program
  pub holds : HoldsOn program
  pub through : HoldsThrough program
  pub owns : HoldsOwn program
  pub above : GoesAbove program
  pub thrown : AreThrown program
  pub kinds : AreOwnKinds program
  pub front : IsFronted program.classes

pub links : (program : Linked) → IsLinked program → Links program
links program linked = record {
  whole = linked_whole program linked;
  formed = linked_formed program linked;
  none = linked_lacks program linked;
  once = once;
  spelled = well_formed_spelled program (linked_formed program linked);
  coded = well_formed_code program (linked_formed program linked);
  holds = linked_holds program linked;
  through = holds_through program order;
  owns = linked_holds_own program linked;
  above = goes_above program (linked_whole program linked) (linked_formed program linked) once have;
  thrown = are_thrown program linked.library linked.more (front program linked) linked.is_library (linked_whole program linked);
  kinds = own_kinds program (linked_whole program linked) once;
  front = subst IsFronted (sym (front program linked)) (fronted_by linked.library linked.more linked.is_library);
}
  where
    order : HasOrder program.classes
    order = program_order program linked.library linked.more (front program linked) linked.is_library linked.well_formed (linked_whole program linked)

    once : NamedOnce program.classes
    once = subst NamedOnce (sym (front program linked)) linked.once

    have : HaveSuperclasses program.classes
    have = subst HaveSuperclasses (sym (front program linked)) linked.above
