use Rattle.std.proofs.Common.{◌*◌, ◌≤◌}
use Rattle.cb_dag.specs.Marks.{NoBit}
use Rattle.cb_dag.proofs.bits.next_bit.Given as goal

abbrev pub invariant-loop-index : goal.invariant-loop-index
invariant-loop-index l = (l.from ≤ 64 * l.index) × NoBit l.words l.from (64 * l.index)
