use Rattle.std.proofs.Common.{rules, codes}
use Rattle.cb_runner.specs.Words.{OfSteps}
use Rattle.cb_runner.proofs.Options.{none_told}
use Rattle.cb_runner.proofs.limits.steps_told.Goals as goal

pub returns-in-Some : goal.returns-in-Some
returns-in-Some c =
    let (number, behind, is, tells) = c.in-Some.ensures in
    record { name = codes "--steps"; number = number; behind = behind; words_are = is; adds = OfSteps c.in-Some.value (none_told _ (search rules)) tells }

pub returns-in-None : goal.returns-in-None
returns-in-None c = λ value none tells. c.in-None.ensures value tells
