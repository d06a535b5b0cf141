use Rattle.std.proofs.Common.{take}
use Rattle.std.specs.List.{AllByRecursion}
use Rattle.cb_text.specs.Pool.{HasIndices}
use Rattle.cb_text.proofs.indices.are_indexed.Given as goal

abbrev pub invariant-loop-constant : goal.invariant-loop-constant
invariant-loop-constant l = AllByRecursion (HasIndices l.constants) (take l.constant-index l.constants)
