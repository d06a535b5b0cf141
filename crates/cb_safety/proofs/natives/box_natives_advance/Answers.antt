use Rattle.cb_safety.proofs.Boxes.{boxes_advance}
use Rattle.cb_safety.proofs.natives.box_natives_advance.Goals as goal

pub returns : goal.returns
returns c = boxes_advance
