use Rattle.std.proofs.Common.{arith}
use Rattle.cb_flow.proofs.Moved.{sources_below}
use Rattle.cb_flow.proofs.Visiting.{count_room}
use Rattle.cb_flow.proofs.moving.flow_from.Goals as goal

pub loop-at-smaller : goal.loop-at-smaller
loop-at-smaller c =
    let most = sources_below c.args.gains.now c.flow_along.new.flow.sources c.flow_along.ensures.held.is_flow.source_each c.flow_along.ensures.held.is_flow.sources in
    omega (arith, most, c.flow_along.ensures.more)

pub unmark_visited-requires-clause-few : goal.unmark_visited-requires-clause-few
unmark_visited-requires-clause-few c =
    let search = c.in-Some.ensures.found.search in
    omega (arith, count_room c.run_from.new.self.seen.items c.run_from.new.self.count search.counted, search.seen_each, search.visit_each)

pub unmark_visited-requires-clause-within : goal.unmark_visited-requires-clause-within
unmark_visited-requires-clause-within c =
    let search = c.in-Some.ensures.found.search in
    λ x low. omega (arith, (search.are x low).within, search.seen_each)
