use Rattle.std.proofs.Common.{◌∙◌, ap, arith, false, replicate, ◌≡◌}
use Rattle.cb_dag.proofs.Grids.{empty_grid}
use Rattle.cb_dag.proofs.grid.Grid.make.Goals as goal

pub invariant_of-result : goal.invariant_of-result
invariant_of-result c =
    let all : c.loop-node._node ≡ c.args.nodes = omega arith in
    empty_grid c.args.nodes c.loop-node.rows.items (c.loop-node.invariant ∙ ap (λ n. replicate n (replicate c.args.nodes false)) all)
