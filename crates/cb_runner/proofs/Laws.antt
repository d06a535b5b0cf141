-- What crates above may cite. No other file of these proofs is for them.
use Rattle.std.proofs.Common.{◌≡◌, ◌⊎◌, inl, inr, ℤ, ℕ, List, Option, Some, None, IsTrue, refl, sym, ◌∙◌, ap, subst}
use Rattle.std.proofs.lemmas.Bool.{false≢true}
use Rattle.cb_io.specs.Folder.{Files}
use Rattle.cb_link.specs.Program.{Linked}
use Rattle.cb_runner.specs.declared.cause.Cause.{Cause}
use Rattle.cb_runner.specs.declared.cause.Cause.TheVariants.{BudgetSpent, Exited, HeapFull, Refused, Returned, Uncaught, Usage, FolderFault, InputFault, OutputFault, ErrFault, OutOfMemory}
use Rattle.cb_runner.specs.Answer.{Answers, Ends, EndsIn, Fault, IsCutShort, IsTold, IsWhole, OfMemory, OfFolder, OfInput, OfOutput, ends_whole}
use Rattle.cb_runner.specs.Asm.{AssemblesText, TooLong, Assembled, Bad}
use Rattle.cb_runner.specs.Ending.{Ending}
use Rattle.cb_runner.specs.List.{ListsBytes, ListsFile, OfVersion, OfNoClass, OfItem, Listed}
use Rattle.cb_runner.specs.Run.{IsRefusedRun, RunsClass, Stopped, Typed, Unrun, Untyped}
use Rattle.cb_runner.specs.Running.{EndsBegun, EndsRun, Exits, Returns, Throws, Spends, Fills}
use Rattle.cb_runner.specs.Words.{Command, Run, RunIn, ListOf, Assemble, Says, SaysNone, SaysRun}

-- whether an end is whole, its cause says
pub whole_by : (ending other : Ending) → ending ≡ other → IsWhole other → IsWhole ending
whole_by ending other is whole = subst IsWhole (sym is) whole

pub cause_whole : (one other : Cause) → one ≡ other → IsTrue (ends_whole one) → IsTrue (ends_whole other)
cause_whole one other is whole = subst (λ cause. IsTrue (ends_whole cause)) is whole

-- a command that nothing cuts short returns or is refused, or the program that it runs ends in another way
ends_begun_whole : {In : Type 0} (left : In → Option (List ℕ)) (gave : In → ℕ → List ℕ → In → Type 0) (run : Run) (program : Linked) (first last : In) (ending : Ending) → EndsBegun left gave run program first last ending → IsWhole ending
ends_begun_whole left gave run program first last ending (Returns count read moment state within comes returns leaves is) = whole_by ending _ is refl
ends_begun_whole left gave run program first last ending (Exits count read moment state status within comes exits leaves is) = whole_by ending _ is refl
ends_begun_whole left gave run program first last ending (Throws count read moment state serial object units within comes throws there tells leaves is) = whole_by ending _ is refl
ends_begun_whole left gave run program first last ending (Spends read moment state comes runs leaves is) = whole_by ending _ is refl
ends_begun_whole left gave run program first last ending (Fills count read moment after state live asked limit below comes refuses leaves is) = whole_by ending _ is refl

pub ends_run_whole : {In : Type 0} (left : In → Option (List ℕ)) (gave : In → ℕ → List ℕ → In → Type 0) (run : Run) (program : Linked) (first last : In) (ending : Ending) → EndsRun left gave run program first last ending → IsWhole ending
ends_run_whole left gave run program first last ending (inl (fills, alone)) = whole_by ending _ fills.is refl
ends_run_whole left gave run program first last ending (inr ends) = ends_begun_whole left gave run program first last ending ends

refused_run_whole : (files : Option Files) (folder : List ℕ) (run : Run) (ending : Ending) → IsRefusedRun files folder run ending → IsWhole ending
refused_run_whole files folder run ending (Stopped refusal reason stops says is) = whole_by ending _ is refl
refused_run_whole files folder run ending (Untyped classes method reason loaded good untyped is) = whole_by ending _ is refl

runs_class_whole : {In : Type 0} (left : In → Option (List ℕ)) (gave : In → ℕ → List ℕ → In → Type 0) (files : Option Files) (folder : List ℕ) (run : Run) (first last : In) (ending : Ending) → RunsClass left gave files folder run first last ending → IsWhole ending
runs_class_whole left gave files folder run first last ending (Unrun refused alone) = refused_run_whole files folder run ending refused
runs_class_whole left gave files folder run first last ending (Typed program runnable runs) = ends_run_whole left gave run program first last ending runs

lists_bytes_whole : (path bytes : List ℕ) (ending : Ending) → ListsBytes path bytes ending → IsWhole ending
lists_bytes_whole path bytes ending (Listed class listed is) = whole_by ending _ is refl
lists_bytes_whole path bytes ending (OfVersion major has other is) = whole_by ending _ is refl
lists_bytes_whole path bytes ending (OfNoClass versions none is) = whole_by ending _ is refl
lists_bytes_whole path bytes ending (OfItem item leaves is) = whole_by ending _ is refl

lists_whole : (path : List ℕ) (file : Option (List ℕ)) (ending : Ending) → ListsFile path file ending → IsWhole ending
lists_whole path None ending is = whole_by ending _ is refl
lists_whole path (Some bytes) ending (inl (long, is)) = whole_by ending _ is refl
lists_whole path (Some bytes) ending (inr (short, lists)) = lists_bytes_whole path bytes ending lists

assembles_whole : (text : List ℕ) (ending : Ending) → AssemblesText text ending → IsWhole ending
assembles_whole text ending (TooLong long is) = whole_by ending _ is refl
assembles_whole text ending (Assembled short class text_of is) = whole_by ending _ is refl
assembles_whole text ending (Bad short line stops is) = whole_by ending _ is refl

pub answers_whole : {In : Type 0} (left : In → Option (List ℕ)) (gave : In → ℕ → List ℕ → In → Type 0) (command : Command) (files : Option Files) (first last : In) (ending : Ending) → Answers left gave command files first last ending → IsWhole ending
answers_whole left gave (RunIn folder run) files first last ending runs = runs_class_whole left gave files folder run first last ending runs
answers_whole left gave (ListOf path) files first last ending (file, may, lists) = lists_whole path file ending lists
answers_whole left gave Assemble files first last ending (text, may, reads, assembles) = assembles_whole text ending assembles

-- what cuts a command short is its cause
pub fault_cause : Fault → Cause
fault_cause OfMemory = OutOfMemory
fault_cause OfFolder = FolderFault
fault_cause OfInput = InputFault
fault_cause OfOutput = OutputFault

pub cut_cause : {In : Type 0} (left : In → Option (List ℕ)) (gave : In → ℕ → List ℕ → In → Type 0) (fault : Fault) (command : Command) (files : Option Files) (first last : In) (ending : Ending) → IsCutShort left gave fault command files first last ending
    → ending.cause ≡ fault_cause fault
unfolding fault_cause
cut_cause left gave OfMemory (RunIn folder run) files first last ending (is, alone) = ap (λ e. e.cause) is
cut_cause left gave OfMemory (ListOf path) files first last ending is = ap (λ e. e.cause) is
cut_cause left gave OfMemory Assemble files first last ending (read, may, is) = ap (λ e. e.cause) is
cut_cause left gave OfFolder (RunIn folder run) files first last ending (is, alone) = ap (λ e. e.cause) is
cut_cause left gave OfFolder (ListOf path) files first last ending is = ap (λ e. e.cause) is
cut_cause left gave OfFolder Assemble files first last ending is = absurd is
cut_cause left gave OfInput (RunIn folder run) files first last ending (program, runnable, cuts) = ap (λ e. e.cause) cuts.is
cut_cause left gave OfInput (ListOf path) files first last ending is = absurd is
cut_cause left gave OfInput Assemble files first last ending (read, may, is) = ap (λ e. e.cause) is
cut_cause left gave OfOutput (RunIn folder run) files first last ending (program, runnable, cuts) = ap (λ e. e.cause) cuts.is
cut_cause left gave OfOutput (ListOf path) files first last ending (whole, answers, front, prefix, is) = ap (λ e. e.cause) is
cut_cause left gave OfOutput Assemble files first last ending (whole, answers, front, prefix, is) = ap (λ e. e.cause) is

-- a command that is cut short isn't whole
pub cut_whole : (fault : Fault) (ending : Ending) → ending.cause ≡ fault_cause fault → IsWhole ending → ⊥
unfolding fault_cause
cut_whole OfMemory ending cut whole = false≢true (cause_whole ending.cause OutOfMemory cut whole)
cut_whole OfFolder ending cut whole = false≢true (cause_whole ending.cause FolderFault cut whole)
cut_whole OfInput ending cut whole = false≢true (cause_whole ending.cause InputFault cut whole)
cut_whole OfOutput ending cut whole = false≢true (cause_whole ending.cause OutputFault cut whole)

-- an end of words that say a command isn't that of words that say none
cut_says : (fault : Fault) (ending : Ending) → ending.cause ≡ fault_cause fault → ending.cause ≡ Usage → ⊥
unfolding fault_cause
cut_says OfMemory ending cut cause_is = let no : OutOfMemory ≡ Usage = sym cut ∙ cause_is in cc
cut_says OfFolder ending cut cause_is = let no : FolderFault ≡ Usage = sym cut ∙ cause_is in cc
cut_says OfInput ending cut cause_is = let no : InputFault ≡ Usage = sym cut ∙ cause_is in cc
cut_says OfOutput ending cut cause_is = let no : OutputFault ≡ Usage = sym cut ∙ cause_is in cc

pub ends_none : {In : Type 0} (left : In → Option (List ℕ)) (gave : In → ℕ → List ℕ → In → Type 0) (words : List (List ℕ)) (files : Option Files) (first last : In) (ending : Ending) → Ends left gave words files first last ending → ending.cause ≡ Usage → SaysNone words
ends_none left gave words files first last ending (inl (none, is)) cause_is = none
ends_none left gave words files first last ending (inr (command, says, inl answers)) cause_is = absurd (false≢true (cause_whole ending.cause Usage cause_is (answers_whole left gave command files first last ending answers)))
ends_none left gave words files first last ending (inr (command, says, inr (fault, cut))) cause_is = absurd (cut_says fault ending (cut_cause left gave fault command files first last ending cut) cause_is)

pub none_ends : {In : Type 0} (left : In → Option (List ℕ)) (gave : In → ℕ → List ℕ → In → Type 0) (words : List (List ℕ)) (files : Option Files) (first last : In) (ending : Ending) → Ends left gave words files first last ending → SaysNone words → ending.cause ≡ Usage
none_ends left gave words files first last ending (inl (none, is)) says_none = ap (λ e. e.cause) is
none_ends left gave words files first last ending (inr (command, says, more)) says_none = absurd (says_none command says)

-- the cause of a call tells words that say none
pub told_none : {In : Type 0} (left : In → Option (List ℕ)) (gave : In → ℕ → List ℕ → In → Type 0) (words : List (List ℕ)) (files : Option Files) (first last : In) (before now : Option (List ℕ)) (ending : Ending) (cause : Cause) → Ends left gave words files first last ending → IsTold ending cause before now → cause ≡ Usage → SaysNone words
told_none left gave words files first last before now ending cause ends (inl (same, appends)) is = ends_none left gave words files first last ending ends (sym same ∙ is)
told_none left gave words files first last before now ending cause ends (inr (fails, appends)) is = let no : ErrFault ≡ Usage = sym fails ∙ is in absurd cc

-- and where they say none it is that, but for a failed write of the last line
pub none_told : {In : Type 0} (left : In → Option (List ℕ)) (gave : In → ℕ → List ℕ → In → Type 0) (words : List (List ℕ)) (files : Option Files) (first last : In) (before now : Option (List ℕ)) (ending : Ending) (cause : Cause) → Ends left gave words files first last ending → IsTold ending cause before now → SaysNone words → (cause ≡ Usage) ⊎ (cause ≡ ErrFault)
none_told left gave words files first last before now ending cause ends (inr (fails, appends)) none = inr fails
none_told left gave words files first last before now ending cause (inl (says_none, is)) (inl (same, appends)) none = inl (same ∙ ap (λ e. e.cause) is)
none_told left gave words files first last before now ending cause (inr (command, says, more)) (inl (same, appends)) none = absurd (none command says)

-- a listing doesn't ask the input, and `asm` doesn't ask the folder
pub asks_input : {In : Type 0} (left : In → Option (List ℕ)) (gave : In → ℕ → List ℕ → In → Type 0) (path : List ℕ) (files : Option Files) (first last : In) (ending : Ending) → EndsIn left gave (ListOf path) files first last ending → ending.cause ≡ InputFault → ⊥
unfolding fault_cause
asks_input left gave path files first last ending (inl answers) is = false≢true (cause_whole ending.cause InputFault is (answers_whole left gave (ListOf path) files first last ending answers))
asks_input left gave path files first last ending (inr (OfInput, cut)) is = cut
asks_input left gave path files first last ending (inr (OfMemory, cut)) is = let no : OutOfMemory ≡ InputFault = sym (cut_cause left gave OfMemory (ListOf path) files first last ending cut) ∙ is in cc
asks_input left gave path files first last ending (inr (OfFolder, cut)) is = let no : FolderFault ≡ InputFault = sym (cut_cause left gave OfFolder (ListOf path) files first last ending cut) ∙ is in cc
asks_input left gave path files first last ending (inr (OfOutput, cut)) is = let no : OutputFault ≡ InputFault = sym (cut_cause left gave OfOutput (ListOf path) files first last ending cut) ∙ is in cc

pub asks_folder : {In : Type 0} (left : In → Option (List ℕ)) (gave : In → ℕ → List ℕ → In → Type 0) (files : Option Files) (first last : In) (ending : Ending) → EndsIn left gave Assemble files first last ending → ending.cause ≡ FolderFault → ⊥
unfolding fault_cause
asks_folder left gave files first last ending (inl answers) is = false≢true (cause_whole ending.cause FolderFault is (answers_whole left gave Assemble files first last ending answers))
asks_folder left gave files first last ending (inr (OfFolder, cut)) is = cut
asks_folder left gave files first last ending (inr (OfMemory, cut)) is = let no : OutOfMemory ≡ FolderFault = sym (cut_cause left gave OfMemory Assemble files first last ending cut) ∙ is in cc
asks_folder left gave files first last ending (inr (OfInput, cut)) is = let no : InputFault ≡ FolderFault = sym (cut_cause left gave OfInput Assemble files first last ending cut) ∙ is in cc
asks_folder left gave files first last ending (inr (OfOutput, cut)) is = let no : OutputFault ≡ FolderFault = sym (cut_cause left gave OfOutput Assemble files first last ending cut) ∙ is in cc

-- what calls `exit` is the program of a run: a listing and an assembly return or are refused
returned_apart : (ending other : Ending) (status : ℤ) → ending ≡ other → other.cause ≡ Returned → ending.cause ≡ Exited status → ⊥
returned_apart ending other status is returned exits = let no : Returned ≡ Exited status = sym returned ∙ sym (ap (λ e. e.cause) is) ∙ exits in cc

refused_apart : (ending other : Ending) (status : ℤ) → ending ≡ other → other.cause ≡ Refused → ending.cause ≡ Exited status → ⊥
refused_apart ending other status is refused exits = let no : Refused ≡ Exited status = sym refused ∙ sym (ap (λ e. e.cause) is) ∙ exits in cc

bytes_apart : (path bytes : List ℕ) (ending : Ending) (status : ℤ) → ListsBytes path bytes ending → ending.cause ≡ Exited status → ⊥
bytes_apart path bytes ending status (Listed class listed is) exits = returned_apart ending _ status is refl exits
bytes_apart path bytes ending status (OfVersion major has other is) exits = refused_apart ending _ status is refl exits
bytes_apart path bytes ending status (OfNoClass versions none is) exits = refused_apart ending _ status is refl exits
bytes_apart path bytes ending status (OfItem item leaves is) exits = refused_apart ending _ status is refl exits

list_apart : (path : List ℕ) (file : Option (List ℕ)) (ending : Ending) (status : ℤ) → ListsFile path file ending → ending.cause ≡ Exited status → ⊥
list_apart path None ending status is exits = refused_apart ending _ status is refl exits
list_apart path (Some bytes) ending status (inl (long, is)) exits = refused_apart ending _ status is refl exits
list_apart path (Some bytes) ending status (inr (short, lists)) exits = bytes_apart path bytes ending status lists exits

text_apart : (text : List ℕ) (ending : Ending) (status : ℤ) → AssemblesText text ending → ending.cause ≡ Exited status → ⊥
text_apart text ending status (TooLong long is) exits = refused_apart ending _ status is refl exits
text_apart text ending status (Assembled short class text_of is) exits = returned_apart ending _ status is refl exits
text_apart text ending status (Bad short line stops is) exits = refused_apart ending _ status is refl exits

cut_apart : (fault : Fault) (ending : Ending) (status : ℤ) → ending.cause ≡ fault_cause fault → ending.cause ≡ Exited status → ⊥
unfolding fault_cause
cut_apart OfMemory ending status cut exits = let no : OutOfMemory ≡ Exited status = sym cut ∙ exits in cc
cut_apart OfFolder ending status cut exits = let no : FolderFault ≡ Exited status = sym cut ∙ exits in cc
cut_apart OfInput ending status cut exits = let no : InputFault ≡ Exited status = sym cut ∙ exits in cc
cut_apart OfOutput ending status cut exits = let no : OutputFault ≡ Exited status = sym cut ∙ exits in cc

exits_run : {In : Type 0} (left : In → Option (List ℕ)) (gave : In → ℕ → List ℕ → In → Type 0) (words : List (List ℕ)) (command : Command) (files : Option Files) (first last : In) (ending : Ending) (status : ℤ) → Says words command
    → EndsIn left gave command files first last ending → ending.cause ≡ Exited status → SaysRun words
exits_run left gave words (RunIn folder run) files first last ending status says ends exits = (folder, run, says)
exits_run left gave words (ListOf path) files first last ending status says (inl (file, may, lists)) exits = absurd (list_apart path file ending status lists exits)
exits_run left gave words (ListOf path) files first last ending status says (inr (fault, cut)) exits = absurd (cut_apart fault ending status (cut_cause left gave fault (ListOf path) files first last ending cut) exits)
exits_run left gave words Assemble files first last ending status says (inl (text, may, reads, assembles)) exits = absurd (text_apart text ending status assembles exits)
exits_run left gave words Assemble files first last ending status says (inr (fault, cut)) exits = absurd (cut_apart fault ending status (cut_cause left gave fault Assemble files first last ending cut) exits)

usage_apart : (status : ℤ) → Usage ≡ Exited status → ⊥
usage_apart status is = cc

-- the cause of a call tells words that say one
pub told_run : {In : Type 0} (left : In → Option (List ℕ)) (gave : In → ℕ → List ℕ → In → Type 0) (words : List (List ℕ)) (files : Option Files) (first last : In) (before now : Option (List ℕ)) (ending : Ending) (cause : Cause) (status : ℤ) → Ends left gave words files first last ending
    → IsTold ending cause before now → cause ≡ Exited status → SaysRun words
told_run left gave words files first last before now ending cause status ends (inr (fails, appends)) is = let no : ErrFault ≡ Exited status = sym fails ∙ is in absurd cc
told_run left gave words files first last before now ending cause status (inl (none, ends)) (inl (same, appends)) is =
    absurd (usage_apart status (sym (ap (λ e. e.cause) ends) ∙ sym same ∙ is))
told_run left gave words files first last before now ending cause status (inr (command, says, ends)) (inl (same, appends)) is = exits_run left gave words command files first last ending status says ends (sym same ∙ is)
