-- What `run` comes to, by what linking its class comes to and how its program runs.
use Rattle.std.specs.Prelude.{◌≡◌, ℕ, List, ◌++◌, Option, Some, None, option_and_then, option_map, slice_get}
use Rattle.cb_io.specs.Folder.{Files}
use Rattle.cb_io.specs.Utf8.{utf8}
use Rattle.cb_classfile.specs.declared.class.ClassFile.{ClassFile}
use Rattle.cb_classfile.specs.declared.method.Method.{Method}
use Rattle.cb_classfile.specs.Pool.{text_at}
use Rattle.cb_link.specs.declared.refusal.Refusal.{Refusal as LinkRefusal}
use Rattle.cb_link.specs.declared.refusal.Refusal.TheVariants as link_refusals
use Rattle.cb_core.specs.Recorded.{core_records}
use Rattle.cb_link.specs.Judging.{IsNoProgram, IsProgram}
use Rattle.cb_load.specs.Linking.{IsHindered}
use Rattle.cb_load.specs.Loading.{AreLoaded}
use Rattle.cb_link.specs.Numbers.{name_of, or_none}
use Rattle.cb_link.specs.Program.{Linked, linked}
use Rattle.cb_verify.specs.Typed.{FailsFirst, IsTyped}
use Rattle.cb_verify.specs.Within.{method_at}
use Rattle.cb_runner.specs.Ending.{Ending, refused}
use Rattle.cb_runner.specs.Messages.{Reason, BadHierarchy, MissingClass, MissingMember, Malformed, BadVersion, NoMain, Unsupported, TooLarge, Unverified}
use Rattle.cb_runner.specs.Running.{EndsRun}
use Rattle.cb_runner.specs.Words.{Run}

-- the most bytes of a class file
abbrev pub file_limit : ℕ
file_limit = 1048576

-- the reason that a refusal of linking says, where it is one of classes
abbrev pub reason_of_linking : LinkRefusal → Option Reason
reason_of_linking (link_refusals.MissingClass name) = Some (MissingClass (utf8 name))
reason_of_linking (link_refusals.TooLarge what count limit) = Some (TooLarge what count limit)
reason_of_linking (link_refusals.Malformed class) = Some (Malformed (utf8 class))
reason_of_linking (link_refusals.BadVersion class major) = Some (BadVersion (utf8 class) major)
reason_of_linking (link_refusals.Unsupported class item) = Some (Unsupported (utf8 class) item)
reason_of_linking (link_refusals.BadHierarchy class) = Some (BadHierarchy (utf8 class))
reason_of_linking (link_refusals.MissingMember class member) = Some (MissingMember (utf8 class) (utf8 member))
reason_of_linking (link_refusals.NoMain class) = Some (NoMain (utf8 class))
reason_of_linking link_refusals.FolderFault = None
reason_of_linking link_refusals.OutOfMemory = None

-- the reason that a method of a class says which isn't typed, by the least place of it that fails
abbrev pub unverified_in : ClassFile → ℕ → Method → Reason
unverified_in class pc method =
    Unverified (utf8 (name_of class)) (utf8 (or_none (text_at class.pool method.name) ++ or_none (text_at class.pool method.descriptor))) pc

-- by its number, and the class that declares a method
abbrev pub class_declaring : Linked → ℕ → Option ClassFile
class_declaring program number = option_and_then (λ linked. slice_get program.classes linked.class) (slice_get program.methods number)

abbrev pub reason_of_typing : Linked → ℕ → ℕ → Option Reason
reason_of_typing program number pc =
    option_and_then (λ class. option_map (unverified_in class pc) (method_at program number)) (class_declaring program number)

-- a program isn't typed, for the reason that its first method with a place that fails says
pub record IsUntyped (program : Linked) (reason : Reason) : Type 0 where
  pub number : ℕ
  pub pc : ℕ
  pub first : FailsFirst program number pc
  pub told : reason_of_typing program number pc ≡ Some reason

-- the classes that a main class needs are this program, behind those of the library, and it is typed
pub record IsRunnable (files : Option Files) (folder main : List ℕ) (program : Linked) : Type 0 where
  pub classes : List ClassFile
  pub method : ℕ
  pub loaded : AreLoaded files folder main classes
  pub good : IsProgram (core_records ++ classes) main method
  pub is : program ≡ linked (core_records ++ classes) main method
  pub typed : IsTyped program

-- linking the class stops for a reason, which is told; or its classes are a program that isn't typed, for a reason that is told
pub data IsRefusedRun (files : Option Files) (folder : List ℕ) (run : Run) (ending : Ending) : Type 0 where
  Stopped : (refusal : LinkRefusal) (reason : Reason) → IsHindered files folder core_records run.main refusal → reason_of_linking refusal ≡ Some reason → ending ≡ refused reason 0
      → IsRefusedRun files folder run ending
  Untyped : (classes : List ClassFile) (method : ℕ) (reason : Reason) → AreLoaded files folder run.main classes
      → IsProgram (core_records ++ classes) run.main method → IsUntyped (linked (core_records ++ classes) run.main method) reason → ending ≡ refused reason 0
      → IsRefusedRun files folder run ending

-- it is refused so, and has left the input alone; or its classes are a program that is typed, and it is run
pub data RunsClass {In : Type 0} (left : In → Option (List ℕ)) (gave : In → ℕ → List ℕ → In → Type 0) (files : Option Files) (folder : List ℕ) (run : Run) (first last : In) (ending : Ending) : Type 0 where
  Unrun : IsRefusedRun files folder run ending → last ≡ first → RunsClass left gave files folder run first last ending
  Typed : (program : Linked) → IsRunnable files folder run.main program → EndsRun left gave run program first last ending → RunsClass left gave files folder run first last ending

-- classes that were loaded are a program behind those of the library; or they are none for this reason
abbrev pub AreProgram : List ClassFile → List ℕ → Type 0
AreProgram classes main = (method : ℕ) × IsProgram (core_records ++ classes) main method

abbrev pub AreNoProgram : List ClassFile → List ℕ → LinkRefusal → Type 0
AreNoProgram classes main refusal = IsNoProgram (core_records ++ classes) main refusal

-- a program of classes that were loaded is typed; or it isn't, for this reason
abbrev pub AreTyped : List ClassFile → List ℕ → Type 0
AreTyped classes main = (method : ℕ) → IsProgram (core_records ++ classes) main method → IsTyped (linked (core_records ++ classes) main method)

abbrev pub AreUntyped : List ClassFile → List ℕ → Reason → Type 0
AreUntyped classes main reason = (method : ℕ) → IsProgram (core_records ++ classes) main method → IsUntyped (linked (core_records ++ classes) main method) reason
