use Rattle.std.proofs.Common.{arith, get_or}
use Rattle.std.proofs.lemmas.List.Sums.{sum_by_more}
use Rattle.std.proofs.lemmas.Option.{get_or_from_slice_get}
use Rattle.cb_cut.proofs.balance.amount.Goals as goal

pub loop-edge-preserved : goal.loop-edge-preserved
loop-edge-preserved c = (
  omega (
    arith,
    sum_by_more (λ edge. get_or c.args.flow.now.arcs edge 0) c.args.edges.now c.loop-edge.edge-index 0 c.loop-edge-test.true,
    get_or_from_slice_get c.args.flow.now.arcs (get_or c.args.edges.now c.loop-edge.edge-index 0) c.arc.result 0 c.arc.ensures,
    c.from-amount.ensures,
    c.loop-edge.invariant.0,
  ),
  omega (arith, c.from-amount.ensures, c.arc.type_inv, c.loop-edge.invariant.1),
)
