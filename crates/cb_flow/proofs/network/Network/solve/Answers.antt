use Rattle.cb_flow.proofs.Empty.{solved}
use Rattle.cb_flow.proofs.network.Network.solve.Goals as goal

pub returns-clause-greatest : goal.returns-clause-greatest
returns-clause-greatest g c =
    solved c.self.inside.gains.items c.as_slice-2.result.now c.self.inside.graph.edges c.flow_most.new.flow c.flow_most.new.search.seen.items c.self.inside.graph.parts
    c.as_slice-2.ensures.value c.self.invariant.are.each c.parts-parts.ensures.within c.flow_most.ensures.held c.flow_most.ensures.seen_each c.flow_most.ensures.reached c.flow_most.ensures.cut_off
