use Rattle.cb_asm_record.proofs.Counting.{at_bracket, at_class}
use Rattle.cb_asm_record.proofs.words.step_at_type.Goals as goal

pub returns-in-91 : goal.returns-in-91
returns-in-91 c = λ brackets rest closing long. at_bracket brackets c.args.unit rest c.in-91.is

pub returns-in-76 : goal.returns-in-76
returns-in-76 c = λ brackets rest closing long. at_class brackets c.args.unit rest c.in-76.is
