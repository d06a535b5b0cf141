use Rattle.cb_act.proofs.GoingSteps.{gets_static_so, null_so, puts_static_so, returns_so, switches_so, whole_so}
use Rattle.cb_act.proofs.law.going_as_said.Goals as goal

pub returns : goal.returns
returns c = record {
  null = λ now pc stands. null_so now pc stands;
  whole = λ now pc value stands names. whole_so now pc stands value names;
  got = λ now pc class slot stands names ready. gets_static_so now pc stands class slot names ready;
  put = λ now pc class slot basic stands names ready typed. puts_static_so now pc stands class slot basic names ready typed;
  switched = λ now pc operand stands. switches_so now pc stands operand;
  returned = λ now pc sort stands. returns_so now pc stands sort;
}
