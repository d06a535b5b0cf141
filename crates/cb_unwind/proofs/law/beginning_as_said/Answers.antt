use Rattle.cb_unwind.proofs.BegunLaws.{begun_on}
use Rattle.cb_unwind.proofs.law.beginning_as_said.Goals as goal

pub returns : goal.returns
returns c = λ machine state class numbers. begun_on machine state state.roots.frames class numbers
