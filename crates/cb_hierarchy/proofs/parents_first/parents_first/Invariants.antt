use Rattle.cb_hierarchy.proofs.Ranked.{AreOrdered}
use Rattle.cb_hierarchy.proofs.parents_first.parents_first.Given as goal

abbrev pub invariant-loop-rank : goal.invariant-loop-rank
invariant-loop-rank l = AreOrdered l.classes l.ranks.items l.rank l.order
