use Rattle.cb_hierarchy.proofs.Badly.{AreOver}
use Rattle.cb_hierarchy.proofs.overriding.overriding.Given as goal

abbrev pub invariant-loop-number : goal.invariant-loop-number
invariant-loop-number l = AreOver l.classes l.methods l.number l.marks
