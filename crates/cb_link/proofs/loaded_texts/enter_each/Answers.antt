use Rattle.cb_link.proofs.KindedParts.{then_item}
use Rattle.cb_link.proofs.loaded_texts.enter_each.Goals as goal

pub loop-item-preserved : goal.loop-item-preserved
loop-item-preserved g c =
    then_item (g.T.Loading.loaded c.args.pool.now) c.args.items.now c.loop-item.item-index c.item-item.result c.args.texts.now c.loop-item.texts c.enter.new.texts
    c.loop-item-test.true c.item-item.is c.loop-item.invariant c.in_ok-enter.ensures
