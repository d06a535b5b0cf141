use Rattle.cb_act.proofs.Leaving.{computes_so, increases_so, loads_so, shuffles_so, stores_so, tests_so}
use Rattle.cb_act.proofs.law.effects_as_said.Goals as goal

pub returns : goal.returns
returns c = record {
  computed = λ now pc computation stands. computes_so now pc stands computation;
  loaded = λ now pc sort local stands. loads_so now pc stands sort local;
  stored = λ now pc sort local stands. stores_so now pc stands sort local;
  increased = λ now pc local by stands. increases_so now pc stands local by;
  tested = λ now pc condition target stands. tests_so now pc stands condition target;
  shuffled = λ now pc shuffle stands. shuffles_so now pc stands shuffle;
}
