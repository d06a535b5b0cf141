use Rattle.std.proofs.Common.{subst, sym, ◌+◌}
use Rattle.cb_dag.specs.Listing.{IsListing}
use Rattle.cb_dag.proofs.Listings.{list_row_end, list_same}
use Rattle.cb_dag.proofs.edges.list_row.Goals as goal
use Rattle.cb_dag.proofs.edges.list_row.Goals.{then-other-node+in_ok-list_edge, else-other-node}

pub loop-other-preserved : goal.loop-other-preserved
loop-other-preserved c = elim c.if-other-node.branch [
  | then-other-node+in_ok-list_edge w ↦
      subst (λ v. IsListing c.args.joined.now v.items c.args.node (c.in-Some.other + 1)) (sym w.edges-is) w.in_ok-list_edge.ensures.edges
  | else-other-node w ↦
      subst (λ v. IsListing c.args.joined.now v.items c.args.node (c.in-Some.other + 1)) (sym w.edges-is)
      (list_same c.args.joined.now c.loop-other.edges.items c.args.node c.loop-other.from c.loop-other.invariant c.in-Some.other c.in-Some.ensures w.if-other-node.false)
]

pub returns-clause-edges : goal.returns-clause-edges
returns-clause-edges c = list_row_end c.args.joined.now c.loop-other.edges.items c.args.node c.loop-other.from c.loop-other.invariant c.in_default.ensures
