use Rattle.std.proofs.Common.{◌≡◌, flat_map}
use Rattle.cb_runner.specs.Words.{units_of}
use Rattle.cb_runner.proofs.class_name.internal_name.Given as goal

abbrev pub invariant-loop-character : goal.invariant-loop-character
invariant-loop-character l = l.name ≡ flat_map units_of l.yielded
