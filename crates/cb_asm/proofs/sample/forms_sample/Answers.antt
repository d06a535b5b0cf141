use Rattle.std.proofs.Common.{refl}
use Rattle.std.specs.Fmt.{digits}
use Rattle.cb_asm.proofs.sample.forms_sample.Goals as goal

pub returns-clause-text : goal.returns-clause-text
unfolding digits
returns-clause-text c = refl

pub returns-clause-listed : goal.returns-clause-listed
unfolding digits
returns-clause-listed c = refl

pub returns-clause-read_off : goal.returns-clause-read_off
unfolding digits
returns-clause-read_off c = refl
