use Rattle.cb_unwind.proofs.UnwoundSteps.{asked_so, left_so, wrapped_so}
use Rattle.cb_unwind.proofs.law.unwinding_as_said.Goals as goal

pub returns : goal.returns
returns c = record {
  left = λ machine state shapes left. left_so machine state shapes left;
  wrapped = λ machine state shapes wrapping blank. wrapped_so machine state shapes wrapping blank;
  asked = λ machine state wrapping. asked_so machine state wrapping;
}
