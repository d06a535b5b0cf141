use Rattle.std.proofs.Common.{◌≡◌, ◌++◌, map, length}
use Rattle.std.specs.List.{AllByRecursion}
use Rattle.cb_asm.proofs.part.take_parts.Given as goal

abbrev pub invariant-loop-part : goal.invariant-loop-part
invariant-loop-part g l =
    (l.initial.statements.items ≡ map g.T.Part.said l.parts ++ l.statements.items) × AllByRecursion g.T.Part.keeps l.parts

abbrev pub decreases-loop-part : goal.decreases-loop-part
decreases-loop-part g l = length l.statements.items
