use Rattle.cb_load.proofs.NamingParts.{item_entered}
use Rattle.cb_load.proofs.names.enter_each.Goals as goal

pub loop-item-preserved : goal.loop-item-preserved
loop-item-preserved g c = record {
  entries =
      item_entered (g.T.Naming.names c.args.pool.now) c.args.items.now c.loop-item.item-index c.item-item.result c.args.entries.now c.loop-item.entries c.enter.new.entries
      c.loop-item-test.true c.item-item.is c.loop-item.invariant.entries c.in_ok-enter.ensures.entries;
  uses = c.in_ok-enter.ensures.uses;
}
