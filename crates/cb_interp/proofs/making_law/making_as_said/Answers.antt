use Rattle.cb_interp.proofs.MakingSteps.{array_is, makes_is}
use Rattle.cb_interp.proofs.making_law.making_as_said.Goals as goal

pub returns : goal.returns
returns c = record {
  object = λ now pc kind class site stands names classed ready sited. makes_is now pc stands kind class site names classed ready sited;
  array = λ now pc site size rest stands whole sited. array_is now pc stands site size rest whole sited;
}
