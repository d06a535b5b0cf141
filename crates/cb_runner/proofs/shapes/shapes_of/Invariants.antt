use Rattle.cb_link.specs.Slots.{shape}
use Rattle.cb_runner.proofs.CopiedLists.{AreUpTo}
use Rattle.cb_runner.proofs.shapes.shapes_of.Given as goal

abbrev pub invariant-loop-kind : goal.invariant-loop-kind
invariant-loop-kind l = AreUpTo (shape l.program) l.kind l.shapes
