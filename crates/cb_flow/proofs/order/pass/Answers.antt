use Rattle.std.proofs.Common.{◌<◌, arith, sym, subst, length}
use Rattle.std.specs.List.{All}
use Rattle.cb_dag.specs.declared.ends.End.TheVariants.{Start}
use Rattle.cb_dag.proofs.Laws.{edges_at_below}
use Rattle.cb_flow.proofs.order.pass.Goals as goal

pub edge-next-requires : goal.edge-next-requires
edge-next-requires c = subst (All (λ i. i < length c.args.graph.now.edges)) (sym c.out_of-edges.ensures) (edges_at_below Start c.args.part c.args.graph.now.edges) c.loop-edge.edge-index 0 (omega arith)
