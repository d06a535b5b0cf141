use Rattle.cb_act.proofs.UnwoundSteps.{caught_so, passes_so}
use Rattle.cb_act.proofs.law.unwinding_as_said.Goals as goal

pub returns : goal.returns
returns c = record {
  passed = λ machine state frame below object frames there none. passes_so machine state frame below object frames there none;
  caught = λ machine state frame below object handler frames there is. caught_so machine state frame below object frames there handler is;
}
