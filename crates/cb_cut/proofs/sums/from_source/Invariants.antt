use Rattle.std.proofs.Common.{◌≡◌, ◌≤◌, ◌*◌, ◌^◌, sum, take}
use Rattle.cb_cut.proofs.sums.from_source.Given as goal

abbrev pub invariant-loop-part : goal.invariant-loop-part
invariant-loop-part l = (l.total ≡ sum (take l.part l.flow.sources)) × (l.total ≤ l.part * 2 ^ 64)
