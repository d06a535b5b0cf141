use Rattle.std.proofs.Common.{arith}
use Rattle.cb_flow.proofs.Moved.{sources_below}
use Rattle.cb_flow.proofs.moving.flow_most.Goals as goal

pub loop-at-smaller : goal.loop-at-smaller
loop-at-smaller c =
    let most = sources_below c.args.gains.now c.flow_along.new.flow.sources c.flow_along.ensures.held.is_flow.source_each c.flow_along.ensures.held.is_flow.sources in
    omega (arith, most, c.flow_along.ensures.more)
