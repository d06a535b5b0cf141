use Rattle.cb_flow.proofs.Reaching.{none_visited}
use Rattle.cb_flow.proofs.search.Search.run_from.Goals as goal

pub enter-requires-clause-before : goal.enter-requires-clause-before
enter-requires-clause-before c = λ edges. none_visited c.args.gains.now edges c.args.flow.now c.args.self.now.visits.items c.args.self.now.seen.items c.requires.visit_each c.requires.seen_each

pub advance-requires-clause-before : goal.advance-requires-clause-before
advance-requires-clause-before c = c.enter.ensures.search c.args.graph.now.edges
