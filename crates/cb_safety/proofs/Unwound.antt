-- A typed state of a program that is linked and verified advances while an exception is pending.
use Rattle.std.proofs.Common.{◌≡◌, ◌∷◌, ◌++◌, subst, ℕ, suc, List, None}
use Rattle.std.specs.List.{AllByRecursion}
use Rattle.cb_classfile.specs.declared.class.ClassFile.{ClassFile}
use Rattle.cb_classfile.specs.Class.{IsWellFormed}
use Rattle.cb_classfile.specs.Library.{AreLibrary}
use Rattle.cb_link.specs.Having.{IsWhole}
use Rattle.cb_machine.specs.Machine.{Machine}
use Rattle.cb_plain.specs.State.{Frame, State}
use Rattle.cb_verify.specs.Typed.{IsTyped}
use Rattle.cb_safety.specs.Advancing.{Advances}
use Rattle.cb_safety.specs.States.{IsTypedState}
use Rattle.cb_safety.proofs.Causes.{keeps_cause}
use Rattle.cb_safety.proofs.Coded.{well_formed_spelled}
use Rattle.cb_safety.proofs.Exceptions.{are_thrown}
use Rattle.cb_safety.proofs.Holding.{holds_goes}
use Rattle.cb_safety.proofs.Located.{all_parts}
use Rattle.cb_safety.proofs.Ordered.{program_order}
use Rattle.cb_safety.proofs.Unwinding.{unwinding_advances}

pub linked_unwinding_advances : (machine : Machine) (library more : List ClassFile) (state : State) (place : ℕ) (first : Frame) (below : List Frame)
    → machine.program.classes ≡ library ++ more → AreLibrary library → AllByRecursion IsWellFormed machine.program.classes → IsWhole machine.program
    → IsTyped machine.program → IsTypedState machine.program state
    → state.exit ≡ None → state.roots.pending ≡ suc place → state.roots.frames ≡ first ∷ below → Advances machine state
linked_unwinding_advances machine library more state place first below front are formed whole fits typed none pending frames =
    unwinding_advances machine state place first below fits (well_formed_spelled machine.program formed)
    (holds_goes machine.program (program_order machine.program library more front are (all_parts IsWellFormed library more (subst (AllByRecursion IsWellFormed) front formed)).1 whole))
    (are_thrown machine.program library more front are whole) (keeps_cause machine.program library more front are whole) typed none pending frames
