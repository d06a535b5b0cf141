use Rattle.cb_act.proofs.ClassSteps.{asks_so, casts_so, fits_so, throws_so}
use Rattle.cb_act.proofs.law.classes_as_said.Goals as goal

pub returns : goal.returns
returns c = record {
  cast = λ now pc kind stands names. casts_so now pc stands kind names;
  asked = λ now pc kind stands names. asks_so now pc stands kind names;
  thrown = λ now pc stands. throws_so now pc stands;
  fits = λ now element value. fits_so now element value;
}
