use Rattle.std.proofs.Common.{inl, inr, ℕ, List, Option}
use Rattle.cb_io.specs.Folder.{Files}
use Rattle.cb_runner.specs.Answer.{Answers, EndsIn, IsWhole}
use Rattle.cb_runner.specs.Ending.{Ending}
use Rattle.cb_runner.specs.Words.{Command}
use Rattle.cb_runner.proofs.Laws.{answers_whole, cut_cause, cut_whole}
use Rattle.cb_runner.proofs.law.whole_exactly.Goals as goal

whole : {In : Type 0} (left : In → Option (List ℕ)) (gave : In → ℕ → List ℕ → In → Type 0) (command : Command) (files : Option Files) (first last : In) (ending : Ending) → EndsIn left gave command files first last ending → IsWhole ending
    → Answers left gave command files first last ending
whole left gave command files first last ending (inl answers) is_whole = answers
whole left gave command files first last ending (inr (fault, cut)) is_whole = absurd (cut_whole fault ending (cut_cause left gave fault command files first last ending cut) is_whole)

pub returns : goal.returns
returns g c = λ command files first last ending ends.
    (whole g.I.Source.left g.I.Source.gave command files first last ending ends, answers_whole g.I.Source.left g.I.Source.gave command files first last ending)
