use Rattle.cb_safety.proofs.Flowing.{flows}
use Rattle.cb_safety.proofs.programs.flows.Goals as goal

pub returns : goal.returns
returns c = flows
