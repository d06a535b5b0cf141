use Rattle.cb_interp.proofs.TypedActs.{typed_acts, typed_suits}
use Rattle.cb_interp.proofs.typed_law.typed_states_act.Goals as goal

pub returns : goal.returns
returns c = record {
  there = λ machine state decoded at linked fits typed. typed_acts machine state decoded at linked fits typed;
  suited = λ machine state decoded at linked fits typed. typed_suits machine state decoded at linked fits typed;
}
