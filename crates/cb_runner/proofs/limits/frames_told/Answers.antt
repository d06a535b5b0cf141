use Rattle.std.proofs.Common.{rules, codes}
use Rattle.cb_runner.specs.Words.{OfFrames}
use Rattle.cb_runner.proofs.Options.{none_told}
use Rattle.cb_runner.proofs.limits.frames_told.Goals as goal

pub returns-in-Some : goal.returns-in-Some
returns-in-Some c =
    let (number, behind, is, tells) = c.in-Some.ensures in
    record { name = codes "--frames"; number = number; behind = behind; words_are = is; adds = OfFrames c.in-Some.value (none_told _ (search rules)) tells }

pub returns-in-None : goal.returns-in-None
returns-in-None c = λ value none tells. c.in-None.ensures value tells
