use Rattle.cb_load.proofs.NamingParts.{frame_entered}
use Rattle.cb_load.proofs.names.MapFrameNaming.enter.Goals as goal

pub returns : goal.returns
returns c = record {
  entries =
      frame_entered c.args.pool.now c.args.self.now c.as_slice.result.now c.as_slice-2.result.now c.args.entries.now c.enter_each.new.entries c.enter_each-2.new.entries
      c.as_slice.ensures c.as_slice-2.ensures c.in_ok-enter_each.ensures.entries c.in_ok-enter_each-2.ensures.entries;
  uses = c.in_ok-enter_each-2.ensures.uses;
}
