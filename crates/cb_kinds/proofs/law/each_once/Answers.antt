use Rattle.cb_kinds.proofs.EnteredTexts.{entered_firsts}
use Rattle.cb_kinds.proofs.law.each_once.Goals as goal

pub returns : goal.returns
returns c = λ texts. entered_firsts texts
