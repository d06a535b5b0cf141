-- How a run ends whose class is linked and isn't typed, and what is run where it is.
use Rattle.std.proofs.Common.{◌≡◌, List, [], ◌∷◌, ℕ, Option, refl, sym, subst}
use Rattle.std.specs.Prelude.{Result, Ok, Err, IfErr, IfOk}
use Rattle.std.specs.List.{AllByRecursion}
use Rattle.cb_io.specs.Folder.{Files}
use Rattle.cb_classfile.specs.declared.class.ClassFile.{ClassFile}
use Rattle.cb_classfile.specs.Class.{IsWellFormed}
use Rattle.cb_classfile.specs.Library.{IsReadable}
use Rattle.cb_core.specs.Recorded.{core_records}
use Rattle.cb_load.specs.Linking.{IsLinked as IsLinkedBy}
use Rattle.cb_link.specs.Program.{Linked}
use Rattle.cb_safety.specs.Linked.{IsLinked}
use Rattle.cb_verify.specs.Typed.{IsTyped}
use Rattle.cb_runner.specs.declared.stop.Stop.{Stop}
use Rattle.cb_runner.specs.declared.stop.Stop.TheVariants.{FolderFault, Refused, OutOfMemory}
use Rattle.cb_runner.specs.Inner.{StopsAtOnce, StopsUntyped}
use Rattle.cb_runner.specs.Run.{IsRunnable, IsRefusedRun, Untyped, IsUntyped}
use Rattle.cb_runner.specs.Words.{Run}
use Rattle.cb_runner.proofs.Endings.{refusal_is}

pub untyped_stops : (files : Option Files) (root : List ℕ) (run : Run) (library : List ClassFile) (program : Linked) (stop : Stop) → library ≡ core_records → IsLinkedBy files root library run.main program → StopsUntyped program stop → StopsAtOnce (IsRefusedRun files root run) stop
untyped_stops files root run library program (Refused text) known links (reason, untyped, is) =
    let all = subst (λ library. IsLinkedBy files root library run.main program) known links in
    let here = subst (λ program. IsUntyped program reason) all.all untyped in
    subst (IsRefusedRun files root run) (refusal_is reason text _ 0 is refl) (Untyped all.classes all.method reason all.loaded all.good here refl)
untyped_stops files root run library program OutOfMemory known links stops = tt
untyped_stops files root run library program stop known links stops = absurd stops

-- and of one that is typed, which is run
runnable_so : (files : Option Files) (root main : List ℕ) (library : List ClassFile) (program : Linked) → library ≡ core_records → IsLinkedBy files root library main program → IsTyped program → IsRunnable files root main program
runnable_so files root main library program known links typed =
    let all = subst (λ library. IsLinkedBy files root library main program) known links in
    record { classes = all.classes; method = all.method; loaded = all.loaded; good = all.good; is = all.all; typed = typed }

-- by what verifying it gave
pub runnable_by : (files : Option Files) (root main : List ℕ) (library : List ClassFile) (program : Linked) (given : Result Linked Stop) → library ≡ core_records → IsLinkedBy files root library main program → IfOk given (λ typed. typed ≡ program) → IfOk given IsTyped → IfOk given (IsRunnable files root main)
runnable_by files root main library program (Ok typed) known links same fits = subst (IsRunnable files root main) (sym same) (runnable_so files root main library program known links (subst IsTyped same fits))
runnable_by files root main library program (Err stop) known links same fits = tt

pub linked_by : (program : Linked) (given : Result Linked Stop) → IsLinked program → IfOk given (λ typed. typed ≡ program) → IfOk given IsLinked
linked_by program (Ok typed) links same = subst IsLinked (sym same) links
linked_by program (Err stop) links same = tt

pub stopped_by : (files : Option Files) (root : List ℕ) (run : Run) (library : List ClassFile) (program : Linked) (given : Result Linked Stop) → library ≡ core_records → IsLinkedBy files root library run.main program → IfErr given (StopsUntyped program) → IfErr given (StopsAtOnce (IsRefusedRun files root run))
stopped_by files root run library program (Ok typed) known links stops = tt
stopped_by files root run library program (Err stop) known links stops = untyped_stops files root run library program stop known links stops

-- which is no fault of the folder
pub quiet_by : (program : Linked) (given : Result Linked Stop) → IfErr given (StopsUntyped program) → given ≡ Err FolderFault → ⊥
quiet_by program given stops is = subst (λ given. IfErr given (StopsUntyped program)) is stops

-- classes that would be read from their bytes are well formed
pub formed_all : (classes : List ClassFile) → AllByRecursion IsReadable classes → AllByRecursion IsWellFormed classes
formed_all [] all = tt
formed_all (class ∷ classes) (readable, all) = (readable.0, formed_all classes all)

-- a call that gave something hasn't failed
pub gave : {Given Fault : Type 0} (result : Result Given Fault) (given : Given) (fault : Fault) → result ≡ Ok given → result ≡ Err fault → ⊥
gave result given fault is fails = cc
