use Rattle.cb_link.specs.Slots.{shape}
use Rattle.cb_link.specs.InnerTables.{AreAll}
use Rattle.cb_link.proofs.shapes.shapes.Given as goal

abbrev pub invariant-loop-kind : goal.invariant-loop-kind
invariant-loop-kind l = AreAll l.kind (shape l.base) l.shapes
