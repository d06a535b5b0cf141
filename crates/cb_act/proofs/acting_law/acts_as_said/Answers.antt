use Rattle.cb_act.proofs.ActsAsSaid.{acts_so}
use Rattle.cb_act.proofs.acting_law.acts_as_said.Goals as goal

pub returns : goal.returns
returns c = λ machine state decoded at own goes arrays is. acts_so machine state decoded at own goes arrays is
