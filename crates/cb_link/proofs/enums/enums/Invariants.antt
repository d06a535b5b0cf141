use Rattle.cb_link.specs.InnerCounts.{AreEnums}
use Rattle.cb_link.proofs.enums.enums.Given as goal

abbrev pub invariant-loop-index : goal.invariant-loop-index
invariant-loop-index l = AreEnums l.base.classes l.index l.rows.items
