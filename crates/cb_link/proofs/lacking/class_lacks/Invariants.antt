use Rattle.std.proofs.Common.{◌≡◌, None, map, take}
use Rattle.cb_hierarchy.specs.Resolution.{first_some}
use Rattle.cb_link.specs.InnerLacked.{body_lacks}
use Rattle.cb_link.proofs.lacking.class_lacks.Given as goal

abbrev pub invariant-loop-method : goal.invariant-loop-method
invariant-loop-method l = first_some (map (λ method. body_lacks l.resolver l.number l.class.pool method.body) (take l.method-index l.method-items)) ≡ None
