use Rattle.cb_classfile.proofs.First.{first_here, none_here}
use Rattle.cb_classfile.proofs.profile.first_item.Goals as goal

pub returns-then-is_some : goal.returns-then-is_some
returns-then-is_some g c = first_here (g.T.Part.item c.args.constants.now) c.args.parts.now _ _ _ _ c.loop-part-test.true c.loop-part.invariant c.part-item.is c.item-item.ensures c.if-is_some.ensures

pub loop-part-preserved : goal.loop-part-preserved
loop-part-preserved g c = none_here (g.T.Part.item c.args.constants.now) c.args.parts.now c.loop-part.part-index c.part-item.result _ _ c.loop-part-test.true c.loop-part.invariant c.part-item.is c.item-item.ensures c.if-is_some.ensures
