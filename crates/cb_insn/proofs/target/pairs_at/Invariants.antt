use Rattle.std.proofs.Common.{◌*◌, ◌≤◌, length, drop}
use Rattle.cb_insn.specs.Faults.{numbers_at}
use Rattle.cb_insn.specs.Inner.{pairs_of}
use Rattle.cb_insn.proofs.Marks.{Walks}
use Rattle.cb_insn.proofs.target.pairs_at.Given as goal

abbrev pub invariant-loop-left : goal.invariant-loop-left
invariant-loop-left l = record {
  walks : Walks l.pc l.starts (pairs_of l.pc l.count l.bytes) l.pairs (pairs_of l.pc l.left l.rest) (numbers_at 8 l.count (drop 4 l.bytes)) (numbers_at 8 l.left (drop 4 l.rest));
  there : 8 * l.left ≤ length l.rest;
}

abbrev pub decreases-loop-left : goal.decreases-loop-left
decreases-loop-left l = l.left
