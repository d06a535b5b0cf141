use Rattle.cb_dag.proofs.Searches.{left_within}
use Rattle.cb_dag.proofs.search.nodes_left.Goals as goal

pub returns-clause-nodes : goal.returns-clause-nodes
returns-clause-nodes c =
    left_within c.args.grid.now c.loop-root.search.seen.items c.loop-root.search.cursors.items c.loop-root.search.trail c.loop-root.search.left c.loop-root.invariant.0
