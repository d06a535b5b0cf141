use Rattle.std.proofs.Common.{◌*◌, ◌≤◌, length, map}
use Rattle.cb_insn.specs.Faults.{numbers_at}
use Rattle.cb_insn.specs.Inner.{target_of}
use Rattle.cb_insn.proofs.Marks.{Walks}
use Rattle.cb_insn.proofs.target.targets_at.Given as goal

abbrev pub invariant-loop-left : goal.invariant-loop-left
invariant-loop-left l = record {
  walks : Walks l.pc l.starts (map (target_of l.pc) (numbers_at 4 l.count l.offsets)) l.targets (map (target_of l.pc) (numbers_at 4 l.left l.rest)) (numbers_at 4 l.count l.offsets) (numbers_at 4 l.left l.rest);
  there : 4 * l.left ≤ length l.rest;
}

abbrev pub decreases-loop-left : goal.decreases-loop-left
decreases-loop-left l = l.left
