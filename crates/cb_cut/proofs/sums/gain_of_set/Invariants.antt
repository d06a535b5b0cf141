use Rattle.std.proofs.Common.{◌≡◌, ◌*◌, ◌^◌, drop}
use Rattle.std.specs.Prelude.{pos, ◌+ℤ◌, ◌≤ℤ◌}
use Rattle.cb_dag.specs.Closed.{gain}
use Rattle.cb_cut.proofs.sums.gain_of_set.Given as goal

abbrev pub invariant-loop-part : goal.invariant-loop-part
invariant-loop-part l =
    (gain l.gains l.set ≡ l.gained +ℤ gain (drop l.part l.gains) (drop l.part l.set))
    × (l.gained ≤ℤ pos (l.part * 2 ^ 28))
    × (pos 0 ≤ℤ (l.gained +ℤ pos (l.part * 2 ^ 28)))
