use Rattle.std.proofs.Common.{◌≡◌, length}
use Rattle.cb_kinds.specs.Descriptors.{result_of}
use Rattle.cb_link.proofs.descriptors.result_of.Given as goal

abbrev pub invariant-loop-sign : goal.invariant-loop-sign
invariant-loop-sign l = result_of l.rest ≡ result_of l.descriptor

abbrev pub decreases-loop-sign : goal.decreases-loop-sign
decreases-loop-sign l = length l.rest
