-- How a run ends whose class isn't linked.
use Rattle.std.proofs.Common.{◌≡◌, ℕ, List, [], Option, Some, refl, sym, subst}
use Rattle.cb_io.specs.Folder.{Files}
use Rattle.cb_io.specs.Utf8.{utf8}
use Rattle.cb_link.specs.declared.refusal.Refusal.{Refusal}
use Rattle.cb_link.specs.declared.refusal.Refusal.TheVariants as links
use Rattle.cb_classfile.specs.declared.class.ClassFile.{ClassFile}
use Rattle.cb_core.specs.Recorded.{core_records}
use Rattle.cb_load.specs.Linking.{Hinders, IsHindered}
use Rattle.cb_runner.specs.declared.stop.Stop.{Stop}
use Rattle.cb_runner.specs.declared.stop.Stop.TheVariants.{Refused, OutOfMemory}
use Rattle.cb_runner.specs.Ending.{Ending, refused}
use Rattle.cb_runner.specs.Inner.{IsRefusal, IsUnlinked, StopsAtOnce}
use Rattle.cb_runner.specs.Messages.{Reason, BadHierarchy, MissingClass, MissingMember, Malformed, BadVersion, NoMain, Unsupported, TooLarge}
use Rattle.cb_runner.specs.Run.{IsRefusedRun, Stopped, reason_of_linking}
use Rattle.cb_runner.specs.Words.{Run}
use Rattle.cb_runner.proofs.Endings.{refusal_is}

-- a refusal for a reason stops at once
refused_at_once : (MayEnd : Ending → Type 0) (reason : Reason) (stop : Stop) → IsRefusal reason stop → MayEnd (refused reason 0) → StopsAtOnce MayEnd stop
refused_at_once MayEnd reason (Refused text) is may = subst MayEnd (refusal_is reason text [] 0 is refl) may
refused_at_once MayEnd reason OutOfMemory is may = tt
refused_at_once MayEnd reason stop is may = absurd is

unlinked_for : (files : Option Files) (root : List ℕ) (run : Run) (library : List ClassFile) (refusal : Refusal) (reason : Reason) (stop : Stop) → library ≡ core_records → IsHindered files root library run.main refusal → reason_of_linking refusal ≡ Some reason → IsRefusal reason stop → StopsAtOnce (IsRefusedRun files root run) stop
unlinked_for files root run library refusal reason stop known stops says is = refused_at_once (IsRefusedRun files root run) reason stop is (Stopped refusal reason (subst (λ library. IsHindered files root library run.main refusal) known stops) says refl)

pub unlinked_so : (files : Option Files) (root : List ℕ) (run : Run) (library : List ClassFile) (refusal : Refusal) (stop : Stop) → library ≡ core_records → Hinders files root library run.main refusal → IsUnlinked refusal stop → StopsAtOnce (IsRefusedRun files root run) stop
unlinked_so files root run library links.FolderFault stop known stops is = subst (StopsAtOnce (IsRefusedRun files root run)) (sym is) tt
unlinked_so files root run library links.OutOfMemory stop known stops is = subst (StopsAtOnce (IsRefusedRun files root run)) (sym is) tt
unlinked_so files root run library (links.MissingClass name) stop known stops is = unlinked_for files root run library (links.MissingClass name) (MissingClass (utf8 name)) stop known stops refl is
unlinked_so files root run library (links.TooLarge what count limit) stop known stops is = unlinked_for files root run library (links.TooLarge what count limit) (TooLarge what count limit) stop known stops refl is
unlinked_so files root run library (links.Malformed class) stop known stops is = unlinked_for files root run library (links.Malformed class) (Malformed (utf8 class)) stop known stops refl is
unlinked_so files root run library (links.BadVersion class major) stop known stops is = unlinked_for files root run library (links.BadVersion class major) (BadVersion (utf8 class) major) stop known stops refl is
unlinked_so files root run library (links.Unsupported class item) stop known stops is = unlinked_for files root run library (links.Unsupported class item) (Unsupported (utf8 class) item) stop known stops refl is
unlinked_so files root run library (links.BadHierarchy class) stop known stops is = unlinked_for files root run library (links.BadHierarchy class) (BadHierarchy (utf8 class)) stop known stops refl is
unlinked_so files root run library (links.MissingMember class member) stop known stops is = unlinked_for files root run library (links.MissingMember class member) (MissingMember (utf8 class) (utf8 member)) stop known stops refl is
unlinked_so files root run library (links.NoMain class) stop known stops is = unlinked_for files root run library (links.NoMain class) (NoMain (utf8 class)) stop known stops refl is
