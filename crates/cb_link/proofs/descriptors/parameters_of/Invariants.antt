use Rattle.std.proofs.Common.{◌≡◌, ◌++◌, length, map}
use Rattle.cb_kinds.specs.Basics.{basic_of}
use Rattle.cb_kinds.specs.Descriptors.{parameters_of}
use Rattle.cb_link.proofs.descriptors.parameters_of.Given as goal

abbrev pub invariant-loop-text : goal.invariant-loop-text
invariant-loop-text l = l.parameters ++ map (basic_of l.kinds) (parameters_of l.rest) ≡ map (basic_of l.kinds) (parameters_of l.descriptor)

abbrev pub decreases-loop-text : goal.decreases-loop-text
decreases-loop-text l = length l.rest
