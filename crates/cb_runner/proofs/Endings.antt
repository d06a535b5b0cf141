-- How commands end.
use Rattle.std.proofs.Common.{ap, ◌≡◌, inl, inr, ◌↔◌, if◌then◌else◌, Bool, true, false, ℕ, ◌<◌, List, [], length, drop, Option, Some, None, IfSome, IfErr, Ok, Err, refl, sym, subst, ◌∙◌, arith, replicate}
use Rattle.std.specs.Prelude.{◌+◌, Result, String, Vec}
use Rattle.std.specs.declared.alloc.Global.{Global}
use Rattle.std.specs.FinMap.{get}
use Rattle.std.specs.Io.KnownBytes.{Appends, Consumes}
use Rattle.std.proofs.lemmas.Bool.{false≢true}
use Rattle.std.proofs.lemmas.List.{append-nil, length-replicate}
use Rattle.std.proofs.Math.Seq.{drop-append_seam}
use Rattle.cb_io.specs.Faults.{CountsFaults}
use Rattle.cb_io.specs.Folder.{Files, Finds, FindsAt, IsWithin}
use Rattle.cb_io.specs.Sink.{IsProperPrefix}
use Rattle.cb_io.specs.declared.folder.Found.{Found}
use Rattle.cb_io.specs.declared.folder.Found.TheVariants.{Bytes, Absent, TooLong}
use Rattle.cb_interp.specs.Reading.{are_bytes, as_bytes}
use Rattle.cb_link.specs.Program.{Linked}
use Rattle.cb_runner.specs.declared.cause.Cause.TheVariants as causes
use Rattle.cb_runner.specs.declared.stop.Stop.{Stop}
use Rattle.cb_runner.specs.declared.stop.Stop.TheVariants.{Exited, Returned, Usage, Refused, Told, FolderFault, InputFault, OutputFault, OutOfMemory}
use Rattle.cb_runner.specs.Answer.{Answers, Ends, EndsIn, IsCutShort, MayStandAt, OfMemory, OfFolder, OfInput, OfOutput}
use Rattle.cb_runner.specs.Ending.{Ending, nothing, out_of_memory, output_fault, refused, returned}
use Rattle.cb_runner.specs.Inner.{IsCarriedOut, IsReady, IsRefusal, IsUnfound, Kept, ListsTo, Makes, PrintsMade, RunsTo, StopsAtOnce, StopsBy, TellsWhole, cause_of, ending_of, ending_with}
use Rattle.cb_runner.specs.List.{ListsFile}
use Rattle.cb_runner.specs.Messages.{Reason}
use Rattle.cb_runner.specs.Run.{IsRefusedRun, IsRunnable, Typed, Unrun, file_limit}
use Rattle.cb_runner.specs.Words.{Command, Run, RunIn, ListOf, Says, SaysNone}
use Rattle.cb_runner.proofs.Laws.{cause_whole, ends_run_whole}

-- nothing more was taken
pub Appends-nothing : (known : Option (List ℕ)) → Appends known known []
Appends-nothing None = tt
Appends-nothing (Some bytes) = sym (append-nil bytes)

-- what is said of what is left is said of it where it is bytes
pub said_bytes : (before : Option (List ℕ)) (Said : List ℕ → Type 0) → IfSome before Said → IfSome (as_bytes before) Said
said_bytes None Said said = tt
said_bytes (Some bytes) Said said = go (are_bytes bytes) where
  go : (test : Bool) → IfSome (if test then Some bytes else None) Said
  go true = said
  go false = tt

-- nothing was read
nothing_left : (left : Option (List ℕ)) → IfSome left (λ bytes. left ≡ Some (drop 0 bytes))
nothing_left None = tt
nothing_left (Some bytes) = refl

pub nothing_read : (left : Option (List ℕ)) → IfSome (as_bytes left) (λ bytes. left ≡ Some (drop 0 bytes))
nothing_read left = said_bytes left (λ bytes. left ≡ Some (drop 0 bytes)) (nothing_left left)

-- there is some file that was found so
told_file : (files : Option Files) (path : List ℕ) (found : Found) → IfSome files (λ told. Finds told path file_limit found) → (file : Option (List ℕ)) → FindsAt file file_limit found → (file : Option (List ℕ)) × MayStandAt files path file × FindsAt file file_limit found
told_file None path found told file untold = (file, tt, untold)
told_file (Some files) path found told file untold = (get files path, refl, told)

-- a list can be that long
longer : (limit : ℕ) → (bytes : List ℕ) × (limit < length bytes)
longer limit = let same = length-replicate {A = ℕ} (limit + 1) 0 in (replicate (limit + 1) 0, omega (arith, same))

pub some_file : (files : Option Files) (path : List ℕ) (found : Found) → IfSome files (λ told. Finds told path file_limit found) → IsWithin file_limit found → (file : Option (List ℕ)) × MayStandAt files path file × FindsAt file file_limit found
some_file files path (Bytes bytes) told within = told_file files path (Bytes bytes) told (Some bytes.items) (refl, within)
some_file files path Absent told within = told_file files path Absent told None refl
some_file files path TooLong told within = let (bytes, long) = longer file_limit in told_file files path TooLong told (Some bytes) long

-- what is refused for a reason ends so
pub refusal_is : (reason : Reason) (text : String Global) (out : List ℕ) (read : ℕ) → IsRefusal reason (Refused text) → out ≡ [] → refused reason read ≡ ending_of (Refused text) out read
refusal_is reason text out read is none = λ i. record { cause = causes.Refused; out = sym none i; err = sym is i; read = read; remains = nothing }

pub refused_so : (MayEnd : Ending → Type 0) (read : ℕ) (reason : Reason) (stop : Stop) → IsRefusal reason stop → MayEnd (refused reason read) → Makes MayEnd read (Err stop)
refused_so MayEnd read reason (Refused text) is may = subst MayEnd (refusal_is reason text [] read is refl) may
refused_so MayEnd read reason OutOfMemory is may = tt
refused_so MayEnd read reason stop is may = absurd is

-- what may end so may end as others do too
pub makes_as : (MayEnd MayAlso : Ending → Type 0) (read : ℕ) (made : Result (Vec ℕ Global) Stop) → ((ending : Ending) → MayEnd ending → MayAlso ending) → Makes MayEnd read made → Makes MayAlso read made
makes_as MayEnd MayAlso read (Ok bytes) also makes = also _ makes
makes_as MayEnd MayAlso read (Err (Refused text)) also makes = also _ makes
makes_as MayEnd MayAlso read (Err OutOfMemory) also makes = tt
makes_as MayEnd MayAlso read (Err stop) also makes = absurd makes

-- a command that makes bytes has no fault of its own, nor has one that prints them another than that of the output
made_quietly : (MayEnd : Ending → Type 0) (read : ℕ) (stop : Stop) → Makes MayEnd read (Err stop) → stop ≡ OutputFault → ⊥
made_quietly MayEnd read stop makes is = subst (λ stop. Makes MayEnd read (Err stop)) is makes

pub makes_quietly : (MayEnd : Ending → Type 0) (read : ℕ) (made : Result (Vec ℕ Global) Stop) → Makes MayEnd read made → IfErr made (λ stop. stop ≡ OutputFault → ⊥)
makes_quietly MayEnd read (Ok bytes) makes = tt
makes_quietly MayEnd read (Err stop) makes = made_quietly MayEnd read stop makes

pub stops_quietly : (MayEnd : Ending → Type 0) (read : ℕ) (stop : Stop) (out : List ℕ) → StopsBy MayEnd read stop out → (stop ≡ FolderFault → ⊥) × (stop ≡ InputFault → ⊥)
stops_quietly MayEnd read stop out stops = (λ is. subst (λ stop. StopsBy MayEnd read stop out) is stops, λ is. subst (λ stop. StopsBy MayEnd read stop out) is stops)

-- bytes that are made and printed
pub unmade : (MayEnd : Ending → Type 0) (read : ℕ) (stop : Stop) → Makes MayEnd read (Err stop) → StopsBy MayEnd read stop []
unmade MayEnd read (Refused text) makes = makes
unmade MayEnd read OutOfMemory makes = refl
unmade MayEnd read stop makes = absurd makes

pub printed_so : (MayEnd : Ending → Type 0) (read : ℕ) (made : Result (Vec ℕ Global) Stop) (stop : Stop) (out : List ℕ) → Makes MayEnd read made → PrintsMade made stop out → StopsBy MayEnd read stop out
printed_so MayEnd read (Ok bytes) Returned out makes is = subst (λ o. MayEnd (returned o read)) (sym is) makes
printed_so MayEnd read (Ok bytes) OutputFault out makes prefix = (returned bytes.items read, makes, prefix, refl)
printed_so MayEnd read (Ok bytes) stop out makes prints = absurd prints
printed_so MayEnd read (Err why) stop out makes (same, nothing) = subst (λ s. StopsBy MayEnd read s out) (sym same) (subst (λ o. StopsBy MayEnd read why o) (sym nothing) (unmade MayEnd read why makes))

-- a front of what is left was read
front_taken : (before now : Option (List ℕ)) (front : List ℕ) → Consumes before now front → IfSome before (λ left. now ≡ Some (drop (length front) left))
front_taken None now front moved = tt
front_taken (Some left) None front moved = absurd moved
front_taken (Some left) (Some rest) front is = ap Some (sym (ap (drop (length front)) is ∙ drop-append_seam front rest))

pub consumed : (before now : Option (List ℕ)) (front : List ℕ) → Consumes before now front → IfSome (as_bytes before) (λ left. now ≡ Some (drop (length front) left))
consumed before now front moved = said_bytes before (λ left. now ≡ Some (drop (length front) left)) (front_taken before now front moved)

-- a run of a class whose program isn't run leaves the input alone
pub run_at_once : {In : Type 0} (left : In → Option (List ℕ)) (gave : In → ℕ → List ℕ → In → Type 0) (folder : List ℕ) (run : Run) (files : Option Files) (source : In) (stop : Stop)
    → StopsAtOnce (IsRefusedRun files folder run) stop → EndsIn left gave (RunIn folder run) files source source (ending_of stop [] 0)
run_at_once left gave folder run files source (Refused text) stops = inl (Unrun stops refl)
run_at_once left gave folder run files source FolderFault stops = inr (OfFolder, (refl, refl))
run_at_once left gave folder run files source OutOfMemory stops = inr (OfMemory, (refl, refl))
run_at_once left gave folder run files source stop stops = absurd stops

-- of which no call of input or output ended the one
pub at_once_quietly : (MayEnd : Ending → Type 0) (stop : Stop) → StopsAtOnce MayEnd stop → (stop ≡ InputFault → ⊥) × (stop ≡ OutputFault → ⊥)
at_once_quietly MayEnd stop stops = (λ is. subst (StopsAtOnce MayEnd) is stops, λ is. subst (StopsAtOnce MayEnd) is stops)

module _ {In : Type 0} (left : In → Option (List ℕ)) (gave : In → ℕ → List ℕ → In → Type 0) (files : Option Files) (first last : In) where
  -- the command ends as it stopped
  pub ends_by : (command : Command) (MayEnd : Ending → Type 0) (read : ℕ) (stop : Stop) (out : List ℕ) → ((ending : Ending) → MayEnd ending → Answers left gave command files first last ending)
      → IsCutShort left gave OfMemory command files first last (out_of_memory read)
      → ((whole : Ending) → Answers left gave command files first last whole → (front : List ℕ) → IsProperPrefix front whole.out
      → IsCutShort left gave OfOutput command files first last (output_fault front whole.read))
      → StopsBy MayEnd read stop out → EndsIn left gave command files first last (ending_of stop out read)
  ends_by command MayEnd read Returned out answers memory output may = inl (answers (returned out read) may)
  ends_by command MayEnd read (Refused text) out answers memory output may = inl (answers (ending_of (Refused text) out read) may)
  ends_by command MayEnd read OutputFault out answers memory output (whole, may, prefix, same) =
      inr (OfOutput, subst (λ read. IsCutShort left gave OfOutput command files first last (output_fault out read)) (sym same) (output whole (answers whole may) out prefix))
  ends_by command MayEnd read OutOfMemory out answers memory output nothing =
      inr (OfMemory, subst (λ out. IsCutShort left gave OfMemory command files first last (ending_of OutOfMemory out read)) (sym nothing) memory)
  ends_by command MayEnd read stop out answers memory output stops = absurd stops

  -- a command of a file, and how it ends where the file couldn't be looked for
  list_unfound : (path : List ℕ) (stop : Stop) → IsUnfound stop → EndsIn left gave (ListOf path) files first last (ending_of stop [] 0)
  list_unfound path FolderFault is = inr (OfFolder, refl)
  list_unfound path OutOfMemory is = inr (OfMemory, refl)
  list_unfound path stop is = absurd is

  pub list_ends : (path : List ℕ) (stop : Stop) (out : List ℕ) → ListsTo path files stop out → EndsIn left gave (ListOf path) files first last (ending_of stop out 0)
  list_ends path stop out (inl (file, may, stops)) =
      ends_by (ListOf path) (ListsFile path file) 0 stop out (λ ending lists. (file, may, lists)) refl (λ whole lists front prefix. (whole, lists, front, prefix, refl)) stops
  list_ends path stop out (inr (nothing, unfound)) =
      subst (λ out. EndsIn left gave (ListOf path) files first last (ending_of stop out 0)) (sym nothing) (list_unfound path stop unfound)

  -- a run of a class whose program is run
  pub run_ends : (folder : List ℕ) (run : Run) (program : Linked) (store : Kept) (stop : Stop) (out : List ℕ) (read : ℕ) → IsRunnable files folder run.main program
      → RunsTo left gave run program first last store stop out read → EndsIn left gave (RunIn folder run) files first last (ending_with store stop out read)
  run_ends folder run program store OutOfMemory out read runnable (no_out, unread, alone, none) =
      inr (OfMemory, (ap (λ store. ending_with store OutOfMemory out read) none ∙ ap (λ out. ending_of OutOfMemory out read) no_out ∙ ap (ending_of OutOfMemory []) unread, alone))
  run_ends folder run program store InputFault out read runnable runs = inr (OfInput, (program, runnable, runs))
  run_ends folder run program store OutputFault out read runnable runs = inr (OfOutput, (program, runnable, runs))
  run_ends folder run program store Returned out read runnable runs = inl (Typed program runnable runs)
  run_ends folder run program store (Exited status) out read runnable runs = inl (Typed program runnable runs)
  run_ends folder run program store (Told cause line) out read runnable runs = inl (Typed program runnable runs)
  run_ends folder run program store stop out read runnable runs = absurd runs

  -- of which no call of the folder ended the one
  pub runs_quietly : (run : Run) (program : Linked) (store : Kept) (stop : Stop) (out : List ℕ) (read : ℕ) → RunsTo left gave run program first last store stop out read → stop ≡ FolderFault → ⊥
  runs_quietly run program store stop out read runs is = subst (λ stop. RunsTo left gave run program first last store stop out read) is runs

  -- and its cause is one of a run that nothing cuts short
  pub runs_tell : (run : Run) (program : Linked) (store : Kept) (stop : Stop) (out : List ℕ) (read : ℕ) → RunsTo left gave run program first last store stop out read → IsReady store stop
      → TellsWhole store stop
  runs_tell run program store (Told cause line) out read runs ready = (ends_run_whole left gave run program first last (ending_with store (Told cause line) out read) runs, ready)
  runs_tell run program store stop out read runs ready = tt

-- what a command tells as the cause of a run is none of those that have a stop of their own
pub refusal_tells : (reason : Reason) (stop : Stop) → IsRefusal reason stop → TellsWhole None stop
refusal_tells reason (Told cause line) refusal = absurd refusal
refusal_tells reason stop refusal = tt

pub unfound_tells : (stop : Stop) → IsUnfound stop → TellsWhole None stop
unfound_tells (Told cause line) unfound = absurd unfound
unfound_tells stop unfound = tt

pub stops_tell : (MayEnd : Ending → Type 0) (read : ℕ) (stop : Stop) (out : List ℕ) → StopsBy MayEnd read stop out → TellsWhole None stop
stops_tell MayEnd read (Told cause line) out stops = absurd stops
stops_tell MayEnd read stop out stops = tt

pub at_once_tells : (MayEnd : Ending → Type 0) (stop : Stop) → StopsAtOnce MayEnd stop → TellsWhole None stop
at_once_tells MayEnd (Told cause line) stops = absurd stops
at_once_tells MayEnd stop stops = tt

-- a count says the same of what comes to the same
same_count : {One Other : Type 0} (before now : ℕ) → (One ↔ Other) → CountsFaults before now One → CountsFaults before now Other
same_count before now same counts = record {
  never_falls = counts.never_falls;
  exact = λ below. let exact = counts.exact below in (λ other. exact.0 (same.1 other), λ rose. same.0 (exact.1 rose));
}

-- as nothing does that doesn't come
pub quiet_count : {One Other : Type 0} (before now : ℕ) → (One → ⊥) → (Other → ⊥) → CountsFaults before now One → CountsFaults before now Other
quiet_count before now one other = same_count before now (λ is. absurd (one is), λ is. absurd (other is))

pub unchanged_count : {Other : Type 0} (count : ℕ) → (Other → ⊥) → CountsFaults count count Other
unchanged_count count other = record { never_falls = omega arith; exact = λ below. (λ is. absurd (other is), λ rose. let none : ⊥ = omega (arith, rose) in absurd none) }

-- what a call gave isn't how it failed
pub not_failed : {Given : Type 0} (given : Given) (stop : Stop) → Ok given ≡ Err stop → ⊥
not_failed given stop is = cc

-- a stop is one of these where its cause is
folder_cause : (store : Kept) (stop : Stop) → TellsWhole store stop → (stop ≡ FolderFault) ↔ (cause_of stop ≡ causes.FolderFault)
folder_cause store (Told cause line) whole = (λ is. cc, λ is. absurd (false≢true (cause_whole cause causes.FolderFault is whole.0)))
folder_cause store Returned whole = (λ is. cc, λ is. cc)
folder_cause store (Exited status) whole = (λ is. cc, λ is. cc)
folder_cause store Usage whole = (λ is. cc, λ is. cc)
folder_cause store (Refused text) whole = (λ is. cc, λ is. cc)
folder_cause store FolderFault whole = (λ is. refl, λ is. refl)
folder_cause store InputFault whole = (λ is. cc, λ is. cc)
folder_cause store OutputFault whole = (λ is. cc, λ is. cc)
folder_cause store OutOfMemory whole = (λ is. cc, λ is. cc)

input_cause : (store : Kept) (stop : Stop) → TellsWhole store stop → (stop ≡ InputFault) ↔ (cause_of stop ≡ causes.InputFault)
input_cause store (Told cause line) whole = (λ is. cc, λ is. absurd (false≢true (cause_whole cause causes.InputFault is whole.0)))
input_cause store Returned whole = (λ is. cc, λ is. cc)
input_cause store (Exited status) whole = (λ is. cc, λ is. cc)
input_cause store Usage whole = (λ is. cc, λ is. cc)
input_cause store (Refused text) whole = (λ is. cc, λ is. cc)
input_cause store FolderFault whole = (λ is. cc, λ is. cc)
input_cause store InputFault whole = (λ is. refl, λ is. refl)
input_cause store OutputFault whole = (λ is. cc, λ is. cc)
input_cause store OutOfMemory whole = (λ is. cc, λ is. cc)

output_cause : (store : Kept) (stop : Stop) → TellsWhole store stop → (stop ≡ OutputFault) ↔ (cause_of stop ≡ causes.OutputFault)
output_cause store (Told cause line) whole = (λ is. cc, λ is. absurd (false≢true (cause_whole cause causes.OutputFault is whole.0)))
output_cause store Returned whole = (λ is. cc, λ is. cc)
output_cause store (Exited status) whole = (λ is. cc, λ is. cc)
output_cause store Usage whole = (λ is. cc, λ is. cc)
output_cause store (Refused text) whole = (λ is. cc, λ is. cc)
output_cause store FolderFault whole = (λ is. cc, λ is. cc)
output_cause store InputFault whole = (λ is. cc, λ is. cc)
output_cause store OutputFault whole = (λ is. refl, λ is. refl)
output_cause store OutOfMemory whole = (λ is. cc, λ is. cc)

-- and none has the cause of a failed write of the last line
pub tells_no_fault : (store : Kept) (stop : Stop) → TellsWhole store stop → cause_of stop ≡ causes.ErrFault → ⊥
tells_no_fault store (Told cause line) whole is = false≢true (cause_whole cause causes.ErrFault is whole.0)
tells_no_fault store Returned whole is = cc
tells_no_fault store (Exited status) whole is = cc
tells_no_fault store Usage whole is = cc
tells_no_fault store (Refused text) whole is = cc
tells_no_fault store FolderFault whole is = cc
tells_no_fault store InputFault whole is = cc
tells_no_fault store OutputFault whole is = cc
tells_no_fault store OutOfMemory whole is = cc

pub folder_counts : (store : Kept) (stop : Stop) (before now : ℕ) → TellsWhole store stop → CountsFaults before now (stop ≡ FolderFault) → CountsFaults before now (cause_of stop ≡ causes.FolderFault)
folder_counts store stop before now whole = same_count before now (folder_cause store stop whole)

pub input_counts : (store : Kept) (stop : Stop) (before now : ℕ) → TellsWhole store stop → CountsFaults before now (stop ≡ InputFault) → CountsFaults before now (cause_of stop ≡ causes.InputFault)
input_counts store stop before now whole = same_count before now (input_cause store stop whole)

pub output_counts : (store : Kept) (stop : Stop) (before now : ℕ) → TellsWhole store stop → CountsFaults before now (stop ≡ OutputFault) → CountsFaults before now (cause_of stop ≡ causes.OutputFault)
output_counts store stop before now whole = same_count before now (output_cause store stop whole)

-- a command that says what it reads is carried out, and one that asks no input
module _ {In : Type 0} (left : In → Option (List ℕ)) (gave : In → ℕ → List ℕ → In → Type 0) (words : List (List ℕ)) (files : Option Files) where
  pub done_so : (first last : In) (known taken : Option (List ℕ)) (command : Command) (store : Kept) (stop : Stop) → Says words command
      → IsCarriedOut (EndsIn left gave command files first last) (left first) (left last) known taken store stop → IsCarriedOut (Ends left gave words files first last) (left first) (left last) known taken store stop
  done_so first last known taken command store stop says done =
      record { printed = done.printed; read = done.read; appends = done.appends; left = done.left; ends = inr (command, says, done.ends) }

  pub carried : (source : In) (known taken : Option (List ℕ)) (command : Command) (stop : Stop) (printed : List ℕ) → Says words command → Appends known taken printed
      → EndsIn left gave command files source source (ending_of stop printed 0)
      → IsCarriedOut (Ends left gave words files source source) (left source) (left source) known taken None stop
  carried source known taken command stop printed says appends ends =
      record { printed = printed; read = 0; appends = appends; left = nothing_read (left source); ends = inr (command, says, ends) }

  pub unsaid : (source : In) (known : Option (List ℕ)) → SaysNone words
      → IsCarriedOut (Ends left gave words files source source) (left source) (left source) known known None Usage
  unsaid source known none = record { printed = []; read = 0; appends = Appends-nothing known; left = nothing_read (left source); ends = inl (none, refl) }
