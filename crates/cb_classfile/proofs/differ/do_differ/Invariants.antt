use Rattle.std.proofs.Common.{map, length}
use Rattle.cb_classfile.specs.Class.{Differ}
use Rattle.cb_classfile.proofs.differ.do_differ.Given as goal

abbrev pub invariant-loop-first : goal.invariant-loop-first
invariant-loop-first g l =
    (Differ l.constants (map g.M.Named.indices l.initial.rest) → Differ l.constants (map g.M.Named.indices l.rest))
    × (Differ l.constants (map g.M.Named.indices l.rest) → Differ l.constants (map g.M.Named.indices l.initial.rest))

abbrev pub decreases-loop-first : goal.decreases-loop-first
decreases-loop-first g l = length l.rest
