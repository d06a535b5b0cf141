use Rattle.std.proofs.Common.{◌≡◌, ◌≤◌, ◌*◌, ◌^◌, slice_index, sum_by, take}
use Rattle.cb_cut.proofs.balance.amount.Given as goal

abbrev pub invariant-loop-edge : goal.invariant-loop-edge
invariant-loop-edge l = (l.amount ≡ sum_by (λ edge. slice_index l.flow.arcs edge) (take l.edge-index l.edges)) × (l.amount ≤ l.edge-index * 2 ^ 64)
