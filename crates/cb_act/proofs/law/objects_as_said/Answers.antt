use Rattle.cb_act.proofs.ObjectSteps.{gets_so, loads_element_so, measures_so, puts_so, stores_element_so, stores_reference_so}
use Rattle.cb_act.proofs.law.objects_as_said.Goals as goal

pub returns : goal.returns
returns c = record {
  got = λ now pc class slot basic stands names typed. gets_so now pc stands class slot basic names typed;
  put = λ now pc class slot basic stands names typed. puts_so now pc stands class slot basic names typed;
  measured = λ now pc stands. measures_so now pc stands;
  read = λ now pc basic stands elements. loads_element_so now pc stands basic elements;
  written = λ now pc elements basic stands typed. stores_element_so now pc stands elements basic typed;
  referred = λ now pc fits stands told. stores_reference_so now pc stands fits told;
}
