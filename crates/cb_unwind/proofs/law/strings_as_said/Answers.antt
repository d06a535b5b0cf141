use Rattle.cb_unwind.proofs.StringLaws.{constant_so}
use Rattle.cb_unwind.proofs.law.strings_as_said.Goals as goal

pub returns : goal.returns
returns c = record {
  made = λ machine text plan next. (constant_so machine text plan next).0;
  serial = λ machine text plan next. (constant_so machine text plan next).1;
}
