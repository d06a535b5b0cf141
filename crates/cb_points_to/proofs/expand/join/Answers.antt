use Rattle.cb_points_to.proofs.expand.join.Goals as goal

pub add_edge-requires-clause-link : goal.add_edge-requires-clause-link
add_edge-requires-clause-link c = c.requires.links c.in-Some-Some.from c.in-Some-Some.to c.in-Some-Some.is-0 c.in-Some-Some.is-1
