use Rattle.cb_act.proofs.ReadGoing.{get_static_read, put_static_read, return_read, switch_read}
use Rattle.cb_act.proofs.law.going_is_read.Goals as goal

pub returns : goal.returns
returns c = record {
  got = λ index held slot. get_static_read index held slot;
  put = λ index held slot basic. put_static_read index held slot basic;
  switched = λ index held operand. switch_read index held operand;
  returned = λ index held program sort. return_read index held program sort;
}
