use Rattle.std.proofs.Common.{arith, []}
use Rattle.cb_flow.proofs.search.Search.enter.Goals as goal

pub reach-requires-clause-part : goal.reach-requires-clause-part
reach-requires-clause-part c = omega (arith, (c.requires.before []).seen_each)

pub reach-requires-clause-each : goal.reach-requires-clause-each
reach-requires-clause-each c = omega (arith, (c.requires.before []).seen_each, (c.requires.before []).visit_each)

pub reach-requires-clause-counted : goal.reach-requires-clause-counted
reach-requires-clause-counted c = (c.requires.before []).counted

pub returns-clause-search : goal.returns-clause-search
returns-clause-search c = λ edges.
    c.reach.ensures.search c.args.gains.now edges c.args.flow.now (c.requires.before edges)
    (record { within = c.requires.part; some = omega (arith, c.if-room-eq0.false); holds = omega (arith, c.if-room-eq0.false, c.source_room-room.ensures) })

pub returns-clause-open : goal.returns-clause-open
returns-clause-open c = λ more. c.reach.ensures.reached
