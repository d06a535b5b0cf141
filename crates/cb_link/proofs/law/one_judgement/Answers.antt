use Rattle.cb_link.proofs.JudgeOnce.{no_program, one_reason}
use Rattle.cb_link.proofs.law.one_judgement.Goals as goal

pub returns : goal.returns
returns c = record { never_both = no_program; refusal = one_reason }
