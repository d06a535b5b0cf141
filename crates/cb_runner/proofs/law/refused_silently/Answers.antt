use Rattle.std.proofs.Common.{◌≡◌, ◌⊎◌, inl, inr, ℤ, ℕ, List, [], Option, Some, None, refl, sym, ◌∙◌, ap}
use Rattle.cb_io.specs.Folder.{Files}
use Rattle.cb_link.specs.Program.{Linked}
use Rattle.cb_runner.specs.declared.cause.Cause.TheVariants.{BudgetSpent, Exited, HeapFull, Refused, Returned, Uncaught}
use Rattle.cb_runner.specs.Answer.{EndsIn}
use Rattle.cb_runner.specs.Asm.{AssemblesText, TooLong, Assembled, Bad}
use Rattle.cb_runner.specs.Ending.{Ending}
use Rattle.cb_runner.specs.List.{ListsBytes, ListsFile, OfVersion, OfNoClass, OfItem, Listed}
use Rattle.cb_runner.specs.Run.{IsRefusedRun, RunsClass, Stopped, Typed, Unrun, Untyped}
use Rattle.cb_runner.specs.Running.{EndsBegun, EndsRun, Exits, Returns, Throws, Spends, Fills}
use Rattle.cb_runner.specs.Words.{Command, Run, RunIn, ListOf, Assemble}
use Rattle.cb_runner.proofs.Laws.{cause_whole, cut_cause, cut_whole}
use Rattle.cb_runner.proofs.law.refused_silently.Goals as goal

-- what returned isn't refused
unrefused : (ending other : Ending) → ending ≡ other → other.cause ≡ Returned → ending.cause ≡ Refused → ⊥
unrefused ending other is returned refused = let no : Returned ≡ Refused = sym returned ∙ sym (ap (λ e. e.cause) is) ∙ refused in cc

-- nor is a run of a program
other_cause : (ending other : Ending) → ending ≡ other → ending.cause ≡ Refused → other.cause ≡ Refused
other_cause ending other is refused = sym (ap (λ e. e.cause) is) ∙ refused

exited_apart : (status : ℤ) → Exited status ≡ Refused → ⊥
exited_apart status is = cc

uncaught_apart : (class : ℕ) → Uncaught class ≡ Refused → ⊥
uncaught_apart class is = cc

spent_apart : BudgetSpent ≡ Refused → ⊥
spent_apart is = cc

full_apart : HeapFull ≡ Refused → ⊥
full_apart is = cc

begun_unrefused : {In : Type 0} (left : In → Option (List ℕ)) (gave : In → ℕ → List ℕ → In → Type 0) (run : Run) (program : Linked) (first last : In) (ending : Ending) → EndsBegun left gave run program first last ending → ending.cause ≡ Refused → ⊥
begun_unrefused left gave run program first last ending (Returns count read moment state within comes returns leaves is) refused = unrefused ending _ is refl refused
begun_unrefused left gave run program first last ending (Exits count read moment state status within comes exits leaves is) refused = exited_apart status (other_cause ending _ is refused)
begun_unrefused left gave run program first last ending (Throws count read moment state serial object units within comes throws there tells leaves is) refused =
    uncaught_apart object.kind (other_cause ending _ is refused)
begun_unrefused left gave run program first last ending (Spends read moment state comes runs leaves is) refused = spent_apart (other_cause ending _ is refused)
begun_unrefused left gave run program first last ending (Fills count read moment after state live asked limit below comes refuses leaves is) refused = full_apart (other_cause ending _ is refused)

run_unrefused : {In : Type 0} (left : In → Option (List ℕ)) (gave : In → ℕ → List ℕ → In → Type 0) (run : Run) (program : Linked) (first last : In) (ending : Ending) → EndsRun left gave run program first last ending → ending.cause ≡ Refused → ⊥
run_unrefused left gave run program first last ending (inl (fills, alone)) refused = full_apart (other_cause ending _ fills.is refused)
run_unrefused left gave run program first last ending (inr ends) refused = begun_unrefused left gave run program first last ending ends refused

silent_refusal : (files : Option Files) (folder : List ℕ) (run : Run) (ending : Ending) → IsRefusedRun files folder run ending → (ending.out ≡ []) × (ending.read ≡ 0)
silent_refusal files folder run ending (Stopped refusal reason stops says is) = (ap (λ e. e.out) is, ap (λ e. e.read) is)
silent_refusal files folder run ending (Untyped classes method reason loaded good untyped is) = (ap (λ e. e.out) is, ap (λ e. e.read) is)

silent_run : {In : Type 0} (left : In → Option (List ℕ)) (gave : In → ℕ → List ℕ → In → Type 0) (files : Option Files) (folder : List ℕ) (run : Run) (first last : In) (ending : Ending) → RunsClass left gave files folder run first last ending → ending.cause ≡ Refused
    → (ending.out ≡ []) × (ending.read ≡ 0)
silent_run left gave files folder run first last ending (Unrun refusal alone) refused = silent_refusal files folder run ending refusal
silent_run left gave files folder run first last ending (Typed program runnable runs) refused = absurd (run_unrefused left gave run program first last ending runs refused)

silent_bytes : (path bytes : List ℕ) (ending : Ending) → ListsBytes path bytes ending → ending.cause ≡ Refused → (ending.out ≡ []) × (ending.read ≡ 0)
silent_bytes path bytes ending (Listed class listed is) refused = absurd (unrefused ending _ is refl refused)
silent_bytes path bytes ending (OfVersion major has other is) refused = (ap (λ e. e.out) is, ap (λ e. e.read) is)
silent_bytes path bytes ending (OfNoClass versions none is) refused = (ap (λ e. e.out) is, ap (λ e. e.read) is)
silent_bytes path bytes ending (OfItem item leaves is) refused = (ap (λ e. e.out) is, ap (λ e. e.read) is)

silent_list : (path : List ℕ) (file : Option (List ℕ)) (ending : Ending) → ListsFile path file ending → ending.cause ≡ Refused → (ending.out ≡ []) × (ending.read ≡ 0)
silent_list path None ending is refused = (ap (λ e. e.out) is, ap (λ e. e.read) is)
silent_list path (Some bytes) ending (inl (long, is)) refused = (ap (λ e. e.out) is, ap (λ e. e.read) is)
silent_list path (Some bytes) ending (inr (short, lists)) refused = silent_bytes path bytes ending lists refused

silent_text : (text : List ℕ) (ending : Ending) → AssemblesText text ending → ending.cause ≡ Refused → ending.out ≡ []
silent_text text ending (TooLong long is) refused = ap (λ e. e.out) is
silent_text text ending (Assembled short class text_of is) refused = absurd (unrefused ending _ is refl refused)
silent_text text ending (Bad short line stops is) refused = ap (λ e. e.out) is

silent : {In : Type 0} (left : In → Option (List ℕ)) (gave : In → ℕ → List ℕ → In → Type 0) (command : Command) (files : Option Files) (first last : In) (ending : Ending) → EndsIn left gave command files first last ending → ending.cause ≡ Refused
    → (ending.out ≡ []) × ((ending.read ≡ 0) ⊎ (command ≡ Assemble))
silent left gave (RunIn folder run) files first last ending (inl runs) refused = let (out, read) = silent_run left gave files folder run first last ending runs refused in (out, inl read)
silent left gave (ListOf path) files first last ending (inl (file, may, lists)) refused = let (out, read) = silent_list path file ending lists refused in (out, inl read)
silent left gave Assemble files first last ending (inl (text, may, reads, assembles)) refused = (silent_text text ending assembles refused, inr refl)
silent left gave command files first last ending (inr (fault, cut)) refused =
    absurd (cut_whole fault ending (cut_cause left gave fault command files first last ending cut) (cause_whole Refused ending.cause (sym refused) refl))

pub returns : goal.returns
returns g c = silent g.I.Source.left g.I.Source.gave
