use Rattle.std.proofs.Common.{◌≡◌, ◌⊎◌, inl, inr, ℤ, ℕ, List, Option, refl, sym, ◌∙◌, ap, arith}
use Rattle.cb_runner.specs.Answer.{IsAnswer}
use Rattle.cb_runner.specs.Ending.{Remains, status_of}
use Rattle.cb_runner.specs.Outside.{Content, Failures}
use Rattle.cb_runner.specs.Words.{SaysNone, SaysRun}
use Rattle.cb_runner.specs.declared.cause.Cause.{Cause}
use Rattle.cb_runner.specs.declared.cause.Cause.TheVariants.{BudgetSpent, ErrFault, Exited, FolderFault, HeapFull, InputFault, OutOfMemory, OutputFault, Refused, Returned, Uncaught, Usage}
use Rattle.cb_runner.proofs.Laws.{none_told, told_none, told_run}
use Rattle.cb_main.proofs.run_few.Goals as goal

-- the status of words that are no command is theirs, or that of a program that called `exit` with it
usage_alone : (cause : Cause) → status_of cause ≡ 120 → (cause ≡ Usage) ⊎ ((status : ℤ) × (cause ≡ Exited status))
usage_alone Usage is = inl refl
usage_alone Returned is = absurd (omega (arith, is))
usage_alone (Exited status) is = inr (status, refl)
usage_alone (Uncaught class) is = absurd (omega (arith, is))
usage_alone BudgetSpent is = absurd (omega (arith, is))
usage_alone HeapFull is = absurd (omega (arith, is))
usage_alone Refused is = absurd (omega (arith, is))
usage_alone FolderFault is = absurd (omega (arith, is))
usage_alone InputFault is = absurd (omega (arith, is))
usage_alone OutputFault is = absurd (omega (arith, is))
usage_alone ErrFault is = absurd (omega (arith, is))
usage_alone OutOfMemory is = absurd (omega (arith, is))

status_told : (status : ℕ) (cause : Cause) → status ≡ status_of cause → (cause ≡ Usage) ⊎ (cause ≡ ErrFault) → (status ≡ 120) ⊎ (status ≡ 127)
status_told status cause is (inl usage) = inl (is ∙ ap status_of usage)
status_told status cause is (inr fault) = inr (is ∙ ap status_of fault)

-- by the whole answer of the call
none_said : {In : Type 0} (left : In → Option (List ℕ)) (gave : In → ℕ → List ℕ → In → Type 0) (words : List (List ℕ)) (before now : Content In) (failed fails : Failures) (cause : Cause) (behind : Remains) → IsAnswer left gave words before now failed fails cause behind → cause ≡ Usage → SaysNone words
none_said left gave words before now failed fails cause behind answer is = told_none left gave words before.files before.input now.input before.err now.err answer.ending cause answer.ends answer.err is

said_none : {In : Type 0} (left : In → Option (List ℕ)) (gave : In → ℕ → List ℕ → In → Type 0) (words : List (List ℕ)) (before now : Content In) (failed fails : Failures) (cause : Cause) (behind : Remains) → IsAnswer left gave words before now failed fails cause behind → SaysNone words → (cause ≡ Usage) ⊎ (cause ≡ ErrFault)
said_none left gave words before now failed fails cause behind answer none = none_told left gave words before.files before.input now.input before.err now.err answer.ending cause answer.ends answer.err none

said_so : {In : Type 0} (left : In → Option (List ℕ)) (gave : In → ℕ → List ℕ → In → Type 0) (words : List (List ℕ)) (before now : Content In) (failed fails : Failures) (cause : Cause) (behind : Remains) → IsAnswer left gave words before now failed fails cause behind
    → (cause ≡ Usage) ⊎ ((status : ℤ) × (cause ≡ Exited status)) → SaysNone words ⊎ SaysRun words
said_so left gave words before now failed fails cause behind answer (inl usage) = inl (none_said left gave words before now failed fails cause behind answer usage)
said_so left gave words before now failed fails cause behind answer (inr (status, exits)) =
    inr (told_run left gave words before.files before.input now.input before.err now.err answer.ending cause status answer.ends answer.err exits)

pub returns-clause-usage : goal.returns-clause-usage
returns-clause-usage c = λ is.
    let (cause, behind, status, answer) = c.exit_code.ensures.answer in
    said_so _ _ _ _ _ _ _ cause behind answer (usage_alone cause (sym status ∙ is))

pub returns-clause-none : goal.returns-clause-none
returns-clause-none c = λ none.
    let (cause, behind, status, answer) = c.exit_code.ensures.answer in
    status_told _ cause status (said_none _ _ _ _ _ _ _ cause behind answer none)
