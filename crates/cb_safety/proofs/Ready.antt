-- A typed state of a program that is linked and verified advances at an instruction that asks for an object.
use Rattle.std.proofs.Common.{◌≡◌, ◌∷◌, ◌++◌, subst, true, List, Some, None}
use Rattle.std.specs.List.{AllByRecursion}
use Rattle.cb_classfile.specs.declared.class.ClassFile.{ClassFile}
use Rattle.cb_classfile.specs.Class.{IsWellFormed}
use Rattle.cb_classfile.specs.Library.{AreLibrary}
use Rattle.cb_insn.specs.declared.insn.Insn.{Insn}
use Rattle.cb_link.specs.Having.{IsWhole}
use Rattle.cb_link.specs.Lacking.{first_lacking}
use Rattle.cb_link.specs.Named.{code_at, insn_in}
use Rattle.cb_machine.specs.Machine.{Machine}
use Rattle.cb_plain.specs.State.{Frame, MethodFrame, OfMethod, State}
use Rattle.cb_shapes.specs.Shapes.{action_of}
use Rattle.cb_shapes.specs.declared.action.Action.{Action}
use Rattle.cb_verify.specs.Typed.{IsTyped}
use Rattle.cb_safety.specs.Advancing.{Advances, is_of_object}
use Rattle.cb_safety.specs.Order.{HasOrder}
use Rattle.cb_safety.specs.States.{IsTypedState}
use Rattle.cb_safety.proofs.Coded.{well_formed_spelled}
use Rattle.cb_safety.proofs.Exceptions.{are_thrown}
use Rattle.cb_safety.proofs.Fielded.{program_names_fields}
use Rattle.cb_safety.proofs.Holding.{holds_goes}
use Rattle.cb_safety.proofs.Kinded.{names_kind}
use Rattle.cb_safety.proofs.Located.{all_parts}
use Rattle.cb_safety.proofs.Objects.{objects_advance}
use Rattle.cb_safety.proofs.Ordered.{program_order}
use Rattle.cb_safety.proofs.Parts.{arrays_hold}
use Rattle.cb_safety.proofs.Through.{holds_through}

pub linked_advance : (machine : Machine) (library more : List ClassFile) (state : State) (frame : MethodFrame) (below : List Frame) (insn : Insn) (action : Action)
    → machine.program.classes ≡ library ++ more → AreLibrary library → AllByRecursion IsWellFormed machine.program.classes → IsWhole machine.program
    → first_lacking machine.program.classes ≡ None → IsTyped machine.program → IsTypedState machine.program state
    → state.exit ≡ None → state.roots.pending ≡ 0 → state.roots.frames ≡ OfMethod frame ∷ below
    → insn_in (code_at machine.program frame.method) frame.pc ≡ Some insn → action_of insn ≡ Some action → is_of_object action ≡ true → Advances machine state
linked_advance machine library more state frame below insn action front are formed whole none fits typed exit zero frames there so is =
    objects_advance machine state frame below insn action fits (well_formed_spelled machine.program formed) (holds_goes machine.program order) (holds_through machine.program order)
    (arrays_hold machine.program whole) (program_names_fields machine.program library more front are formed whole none) (names_kind machine.program whole formed)
    (are_thrown machine.program library more front are whole) typed exit zero frames there so is
  where
    order : HasOrder machine.program.classes
    order =
        program_order machine.program library more front are
        (all_parts IsWellFormed library more (subst (AllByRecursion IsWellFormed) front formed)).1 whole
