use Rattle.std.proofs.Common.{◌≡◌, ◌≤◌, ◌*◌, ◌^◌, sum_by, take}
use Rattle.cb_dag.specs.Flows.{positive}
use Rattle.cb_cut.proofs.sums.positive_gains.Given as goal

abbrev pub invariant-loop-gain : goal.invariant-loop-gain
invariant-loop-gain l = (l.total ≡ sum_by positive (take l.gain-index l.gains)) × (l.total ≤ l.gain-index * 2 ^ 28)
