use Rattle.std.proofs.Common.{◌≡◌, filter, not, take}
use Rattle.cb_hierarchy.specs.Resolution.{method_is}
use Rattle.cb_hierarchy.specs.InnerSpecific.{is_specific}
use Rattle.cb_hierarchy.proofs.specific.most_specific_of.Given as goal

abbrev pub invariant-loop-candidate : goal.invariant-loop-candidate
invariant-loop-candidate l =
    l.found ≡ filter (method_is l.methods (λ method. not method.is_abstract)) (filter (is_specific l.hierarchy l.methods l.candidates) (take l.candidate-index l.candidates))
