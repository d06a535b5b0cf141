use Rattle.cb_link.proofs.KindedParts.{then_item}
use Rattle.cb_link.proofs.named_kinds.enter_each.Goals as goal

pub loop-item-preserved : goal.loop-item-preserved
loop-item-preserved g c =
    then_item (g.T.Kinded.named c.args.pool.now) c.args.items.now c.loop-item.item-index c.item-item.result c.args.kinds.now c.loop-item.kinds c.enter.new.kinds
    c.loop-item-test.true c.item-item.is c.loop-item.invariant c.in_ok-enter.ensures
