-- All that a typed state asks of a program holds of one that is linked and typed.
use Rattle.std.proofs.Common.{sym, subst}
use Rattle.cb_link.specs.Having.{IsWhole}
use Rattle.cb_link.specs.Program.{Linked}
use Rattle.cb_verify.specs.Typed.{IsTyped}
use Rattle.cb_safety.specs.ClassNames.{HaveSuperclasses, NamedOnce}
use Rattle.cb_safety.specs.Linked.{IsLinked}
use Rattle.cb_safety.specs.Sound.{IsSound}
use Rattle.cb_safety.proofs.Causes.{keeps_cause}
use Rattle.cb_safety.proofs.Coded.{well_formed_code, well_formed_spelled}
use Rattle.cb_safety.proofs.CoreKinds.{has_message}
use Rattle.cb_safety.proofs.Exceptions.{are_thrown}
use Rattle.cb_safety.proofs.FewKinds.{has_class_objects}
use Rattle.cb_safety.proofs.Fielded.{program_names_fields}
use Rattle.cb_safety.proofs.FirstValues.{has_constants}
use Rattle.cb_safety.proofs.Initialisers.{has_initialisers}
use Rattle.cb_safety.proofs.Kinded.{names_kind}
use Rattle.cb_safety.proofs.Linking.{front, linked_formed, linked_holds, linked_holds_own, linked_lacks, linked_whole}
use Rattle.cb_safety.proofs.MainMethods.{has_main}
use Rattle.cb_safety.proofs.NewClasses.{names_classes}
use Rattle.cb_safety.proofs.Ordered.{program_order}
use Rattle.cb_safety.proofs.Parts.{arrays_hold}
use Rattle.cb_safety.proofs.Sited.{has_sites}
use Rattle.cb_safety.proofs.StaticNames.{names_static}
use Rattle.cb_safety.proofs.Streams.{has_start}
use Rattle.cb_safety.proofs.Superclasses.{goes_above}
use Rattle.cb_safety.proofs.Through.{holds_through}

pub linked_sound : (program : Linked) → IsLinked program → IsTyped program → IsSound program
linked_sound program is typed =
    let whole : IsWhole program = linked_whole program is in
    let formed = linked_formed program is in
    let lacks = linked_lacks program is in
    record {
      holds_on = linked_holds program is;
      holds_through = holds_through program (program_order program is.library is.more (front program is) is.is_library is.well_formed whole);
      holds_elements = arrays_hold program whole;
      holds_own = linked_holds_own program is;
      goes_above = goes_above program whole formed (subst NamedOnce (sym (front program is)) is.once) (subst HaveSuperclasses (sym (front program is)) is.above);
      spelled = well_formed_spelled program formed;
      code = well_formed_code program formed;
      fields = program_names_fields program is.library is.more (front program is) is.is_library formed whole lacks;
      kinds = names_kind program whole formed;
      statics = names_static program whole formed lacks;
      classes = names_classes program is typed;
      sites = has_sites program whole;
      thrown = are_thrown program is.library is.more (front program is) is.is_library whole;
      cause = keeps_cause program is.library is.more (front program is) is.is_library whole;
      message = has_message program is;
      constants = has_constants program is;
      class_objects = has_class_objects program is;
      main = has_main program is;
      start = has_start program is;
      initialisers = has_initialisers program is typed;
    }
