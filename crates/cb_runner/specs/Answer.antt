-- What a call answers.
use Rattle.std.specs.Prelude.{◌≡◌, ◌⊎◌, ℕ, ◌+◌, ◌≤◌, Bool, true, false, IsTrue, List, length, drop, Option, Some, IfSome}
use Rattle.std.specs.FinMap.{get}
use Rattle.std.specs.Io.KnownBytes.{Appends}
use Rattle.cb_io.specs.Faults.{CountsFaults}
use Rattle.cb_io.specs.Folder.{Files}
use Rattle.cb_io.specs.Sink.{AppendsProperPrefix, IsProperPrefix}
use Rattle.cb_interp.specs.Reading.{as_bytes}
use Rattle.cb_link.specs.Program.{Linked}
use Rattle.cb_runner.specs.declared.cause.Cause.{Cause}
use Rattle.cb_runner.specs.declared.cause.Cause.TheVariants.{BudgetSpent, ErrFault, Exited, FolderFault, HeapFull, InputFault, OutOfMemory, OutputFault, Refused, Returned, Uncaught, Usage}
use Rattle.cb_runner.specs.Asm.{AssemblesText, ReadsBefore, ReadsBytes, ReadsText, text_limit}
use Rattle.cb_runner.specs.Ending.{Ending, Remains, folder_fault, input_fault, out_of_memory, output_fault, usage}
use Rattle.cb_runner.specs.List.{ListsFile}
use Rattle.cb_runner.specs.Outside.{Content, Failures}
use Rattle.cb_runner.specs.Run.{IsRunnable, RunsClass}
use Rattle.cb_runner.specs.Running.{CutsInput, CutsOutput}
use Rattle.cb_runner.specs.Words.{Command, RunIn, ListOf, Assemble, Says, SaysNone}

-- a command that nothing cuts short returns or is refused, or the program that it runs ends in another way
abbrev pub ends_whole : Cause → Bool
ends_whole Returned = true
ends_whole (Exited status) = true
ends_whole (Uncaught class) = true
ends_whole BudgetSpent = true
ends_whole HeapFull = true
ends_whole Usage = false
ends_whole Refused = true
ends_whole FolderFault = false
ends_whole InputFault = false
ends_whole OutputFault = false
ends_whole ErrFault = false
ends_whole OutOfMemory = false

abbrev pub IsWhole : Ending → Type 0
IsWhole ending = IsTrue (ends_whole ending.cause)

-- the file at a path may have these bytes, or be missing. Where the folder tells its files, it is so; else it may be any
abbrev pub MayStandAt : Option Files → List ℕ → Option (List ℕ) → Type 0
MayStandAt files path file = IfSome files (λ files. get files path ≡ file)

-- it comes to this end, by what its files may be, or by what calls of the input gave, which led from one source to another
abbrev pub Answers : {In : Type 0} → (In → Option (List ℕ)) → (In → ℕ → List ℕ → In → Type 0) → Command → Option Files → (first last : In) → Ending → Type 0
Answers left gave (RunIn folder run) files first last ending = RunsClass left gave files folder run first last ending
Answers left gave (ListOf path) files first last ending = (file : Option (List ℕ)) × MayStandAt files path file × ListsFile path file ending
Answers left gave Assemble files first last ending = (text : List ℕ) × IfSome (left first) (λ left. left ≡ text) × ReadsText gave first last text × AssemblesText text ending

-- what cuts a command short
pub data Fault : Type 0 where
  OfMemory : Fault
  OfFolder : Fault
  OfInput : Fault
  OfOutput : Fault

-- a command is cut short before it has printed anything, and has read so much: `list` asks the folder alone, and `asm` the input alone
abbrev pub StopsShort : {In : Type 0} → (In → Option (List ℕ)) → (In → ℕ → List ℕ → In → Type 0) → Fault → Command → (first last : In) → Ending → Type 0
StopsShort left gave OfMemory Assemble first last ending = (read : ℕ) × ReadsBytes left gave (text_limit + 1) first last read × (ending ≡ out_of_memory read)
StopsShort left gave OfMemory command first last ending = ending ≡ out_of_memory 0
StopsShort left gave OfFolder Assemble first last ending = ⊥
StopsShort left gave OfFolder command first last ending = ending ≡ folder_fault
StopsShort left gave OfInput Assemble first last ending = (read : ℕ) × ReadsBefore left gave text_limit first last read × (ending ≡ input_fault read)
StopsShort left gave fault command first last ending = ⊥

-- it is cut short so, or within what it prints. A run may be cut short before it begins, and then has left the input alone; when it has begun, only by a
-- call of the input, within a step that asks it, or one of the output, within a step that prints
abbrev pub IsCutShort : {In : Type 0} → (In → Option (List ℕ)) → (In → ℕ → List ℕ → In → Type 0) → Fault → Command → Option Files → (first last : In) → Ending → Type 0
IsCutShort left gave OfMemory (RunIn folder run) files first last ending = (ending ≡ out_of_memory 0) × (last ≡ first)
IsCutShort left gave OfFolder (RunIn folder run) files first last ending = (ending ≡ folder_fault) × (last ≡ first)
IsCutShort left gave OfInput (RunIn folder run) files first last ending =
    (program : Linked) × IsRunnable files folder run.main program × CutsInput left gave run program first last ending
IsCutShort left gave OfOutput (RunIn folder run) files first last ending =
    (program : Linked) × IsRunnable files folder run.main program × CutsOutput left gave run program first last ending
IsCutShort left gave OfOutput command files first last ending =
    (whole : Ending) × Answers left gave command files first last whole × (front : List ℕ) × IsProperPrefix front whole.out × (ending ≡ output_fault front whole.read)
IsCutShort left gave fault command files first last ending = StopsShort left gave fault command first last ending

-- a command ends so, whole or cut short, and so do words, which may say none
abbrev pub EndsIn : {In : Type 0} → (In → Option (List ℕ)) → (In → ℕ → List ℕ → In → Type 0) → Command → Option Files → (first last : In) → Ending → Type 0
EndsIn left gave command files first last ending =
    Answers left gave command files first last ending ⊎ ((fault : Fault) × IsCutShort left gave fault command files first last ending)

abbrev pub Ends : {In : Type 0} → (In → Option (List ℕ)) → (In → ℕ → List ℕ → In → Type 0) → List (List ℕ) → Option Files → (first last : In) → Ending → Type 0
Ends left gave words files first last ending =
    (SaysNone words × (ending ≡ usage)) ⊎ ((command : Command) × Says words command × EndsIn left gave command files first last ending)

-- the last line is told, or a write of it failed
abbrev pub IsTold : Ending → Cause → Option (List ℕ) → Option (List ℕ) → Type 0
IsTold ending cause before now =
    ((cause ≡ ending.cause) × Appends before now ending.err) ⊎ ((cause ≡ ErrFault) × AppendsProperPrefix before now ending.err)

-- each count rises exactly where a call of its object failed, which ends the call
pub record CountsEach (ending : Ending) (cause : Cause) (before now : Failures) : Type 0 where
  pub folder : CountsFaults before.folder now.folder (ending.cause ≡ FolderFault)
  pub input : CountsFaults before.input now.input (ending.cause ≡ InputFault)
  pub out : CountsFaults before.out now.out (ending.cause ≡ OutputFault)
  pub err : CountsFaults before.err now.err (cause ≡ ErrFault)

-- a listing asks nothing of the input
abbrev pub may_read : Command → Bool
may_read (ListOf path) = false
may_read other = true

-- the answer of a call: an end to which the words are carried out, and what the objects hold and have counted then. What is left of an input
-- that tells bytes is told; words that list or say no command leave it alone. With it the call gives what a run leaves
pub record IsAnswer {In : Type 0} (left : In → Option (List ℕ)) (gave : In → ℕ → List ℕ → In → Type 0) (words : List (List ℕ)) (before now : Content In) (failed fails : Failures) (cause : Cause)
    (behind : Remains) : Type 0 where
  pub ending : Ending
  pub ends : Ends left gave words before.files before.input now.input ending
  pub files : now.files ≡ before.files
  pub remains : IfSome (as_bytes (left before.input)) (λ bytes. left now.input ≡ Some (drop ending.read bytes))
  pub alone : ((command : Command) → Says words command → may_read command ≡ false) → (now.input ≡ before.input) × (fails.input ≡ failed.input)
  pub out : Appends before.out now.out ending.out
  pub err : IsTold ending cause before.err now.err
  pub counts : CountsEach ending cause failed fails
  pub leaves : behind ≡ ending.remains
