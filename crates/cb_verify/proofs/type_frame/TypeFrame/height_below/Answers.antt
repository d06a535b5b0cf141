use Rattle.std.proofs.Common.{arith}
use Rattle.cb_verify.proofs.FrameLists.{height_next}
use Rattle.cb_verify.proofs.type_frame.TypeFrame.height_below.Goals as goal

pub overflow_sub-words : goal.overflow_sub-words
overflow_sub-words c = omega (arith, height_next c.args.self.now.stack c.loop-place.place c.top.result c.top.ensures)

pub loop-place-preserved : goal.loop-place-preserved
loop-place-preserved c = omega (arith, height_next c.args.self.now.stack c.loop-place.place c.top.result c.top.ensures)
