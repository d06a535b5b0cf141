use Rattle.cb_act.proofs.FrameLeft.{done_so, left_read}
use Rattle.cb_act.proofs.law.frames_as_said.Goals as goal

pub returns : goal.returns
returns c = record {
  done = λ now pc target action stands plain. done_so now pc target action stands plain;
  read = λ index held action pc target plain. left_read index held action pc target plain;
}
