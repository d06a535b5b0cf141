use Rattle.cb_flow.proofs.Reaching.{cut_off, if_none, reached_exactly}
use Rattle.cb_flow.proofs.search.Search.run.Goals as goal

pub returns-clause-reached : goal.returns-clause-reached
returns-clause-reached c =
    if_none c.advance.result
    (λ explored. reached_exactly c.args.gains.now c.args.graph.now.edges c.args.flow.now c.advance.new.self.visits.items c.advance.new.self.count c.advance.new.self.seen.items c.advance.ensures.search
    (c.advance.ensures.grows.visited c.start.ensures.visited) (λ part low more. c.advance.ensures.grows.still part (c.start.ensures.open part low more)) explored)
    c.advance.ensures.explored

pub returns-clause-cut_off : goal.returns-clause-cut_off
returns-clause-cut_off c =
    if_none c.advance.result
    (λ explored. cut_off c.args.gains.now c.args.graph.now.edges c.args.flow.now c.advance.new.self.visits.items c.advance.new.self.count c.advance.new.self.seen.items c.advance.ensures.search
    (c.advance.ensures.grows.visited c.start.ensures.visited) (λ part low more. c.advance.ensures.grows.still part (c.start.ensures.open part low more)) explored)
    c.advance.ensures.explored

pub advance-requires-clause-before : goal.advance-requires-clause-before
advance-requires-clause-before c = c.start.ensures.search c.args.graph.now.edges
