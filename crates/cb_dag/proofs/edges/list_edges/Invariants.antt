use Rattle.cb_dag.specs.Listing.{IsListing}
use Rattle.cb_dag.proofs.edges.list_edges.Given as goal

abbrev pub invariant-loop-node : goal.invariant-loop-node
invariant-loop-node l = IsListing l.joined l.edges.items l.node 0
