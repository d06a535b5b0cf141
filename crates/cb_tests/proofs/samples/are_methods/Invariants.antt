use Rattle.std.proofs.Common.{◌<◌, length, map, take}
use Rattle.std.specs.List.{AllByRecursion}
use Rattle.cb_tests.proofs.samples.are_methods.Given as goal

abbrev pub invariant-loop-method : goal.invariant-loop-method
invariant-loop-method l = AllByRecursion (λ member. member.signature < length l.methods) (map (λ method. method.declared) (take l.method-index l.methods))
