use Rattle.std.proofs.Common.{ap, arith, length}
use Rattle.cb_frames.proofs.SlotLists.{counted}
use Rattle.cb_frames.proofs.slot_list.SlotList.len.Goals as goal

pub returns : goal.returns
returns c = omega (arith, c.len.ensures, counted c.self.inside.kinds.items c.self.inside.words.items c.self.invariant, ap length c.self.view_is)
