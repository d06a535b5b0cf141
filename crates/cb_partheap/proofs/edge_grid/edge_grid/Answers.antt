use Rattle.std.proofs.Common.{◌∙◌, ap, false, replicate}
use Rattle.cb_partheap.proofs.Edges.{edge_step, grid_none}
use Rattle.cb_partheap.proofs.edge_grid.edge_grid.Goals as goal

pub loop-edge-init : goal.loop-edge-init
loop-edge-init c = grid_none c.args.dag.now.parts c.in_ok-grid.grid c.args.dag.now.edges (c.in_ok-grid.ensures ∙ ap (λ n. replicate n (replicate n false)) c.parts.ensures.parts)

pub loop-edge-preserved : goal.loop-edge-preserved
loop-edge-preserved c =
    edge_step c.args.dag.now.parts c.loop-edge.grid c.put.new.self c.edges-edge-items.result.now c.args.dag.now.edges c.loop-edge.edge-index c.edges-edge-items.ensures.edges c.put.ensures c.loop-edge-test.true c.nodes-nodes.ensures.square
    c.edges-edge-items.ensures.graph.within c.loop-edge.invariant
