use Rattle.std.proofs.Common.{◌≡◌, ◌++◌, map, take}
use Rattle.cb_verify.specs.Expansion.{this_types}
use Rattle.cb_verify.specs.Types.{type_of}
use Rattle.cb_verify.specs.Within.{parameters}
use Rattle.cb_verify.proofs.start_types.start_types.Given as goal

abbrev pub invariant-loop-parameter : goal.invariant-loop-parameter
invariant-loop-parameter l = l.types ≡ this_types l.method ++ map type_of (take l.parameter (parameters l.method))
