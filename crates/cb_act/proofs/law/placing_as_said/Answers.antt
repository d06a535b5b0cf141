use Rattle.cb_act.proofs.PlacingSteps.{invokes_so, makes_array_so, makes_so, negative_so, thrown_so}
use Rattle.cb_act.proofs.law.placing_as_said.Goals as goal

pub returns : goal.returns
returns c = record {
  thrown = λ machine state site shapes is. thrown_so machine state site shapes is;
  made = λ now pc kind class site size shapes stands names classed ready sited is. makes_so now pc stands kind class site size shapes names classed ready sited is;
  entered = λ now pc class method numbered body held rest stands names declares ready there is has. invokes_so now pc stands class method numbered body held rest names declares ready there is has;
  array = λ now pc site size rest shapes stands whole sited is. makes_array_so now pc stands site size rest shapes whole sited is;
  negative = λ now pc below rest stands whole. negative_so now pc stands below rest whole;
}
