use Rattle.std.proofs.Common.{take}
use Rattle.cb_partheap.specs.Made.{IsGridOf}
use Rattle.cb_partheap.proofs.edge_grid.edge_grid.Given as goal

abbrev pub invariant-loop-edge : goal.invariant-loop-edge
invariant-loop-edge l = IsGridOf l.dag.parts (take l.edge-index l.dag.edges) l.grid
