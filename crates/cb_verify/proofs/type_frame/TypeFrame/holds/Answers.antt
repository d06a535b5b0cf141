use Rattle.cb_verify.specs.Frames.{is_same}
use Rattle.cb_verify.proofs.FrameLists.{any_found, any_left}
use Rattle.cb_verify.proofs.type_frame.TypeFrame.holds.Goals as goal

pub returns-then-is_same : goal.returns-then-is_same
returns-then-is_same c =
    any_found (is_same c.args.value) c.args.self.now.stack c.loop-place.place c.top.result c.is_same.result _ c.top.ensures c.is_same.ensures c.if-is_same.true c.loop-place.invariant

pub loop-place-preserved : goal.loop-place-preserved
loop-place-preserved c =
    any_left (is_same c.args.value) c.args.self.now.stack c.loop-place.place c.top.result c.is_same.result _ c.top.ensures c.is_same.ensures c.if-is_same.false c.loop-place.invariant
