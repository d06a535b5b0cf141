use Rattle.std.proofs.Common.{◌≡◌, drop, map}
use Rattle.cb_hierarchy.specs.Members.{method_of}
use Rattle.cb_hierarchy.specs.Orders.{upwards}
use Rattle.cb_hierarchy.specs.Resolution.{first_some}
use Rattle.cb_link.specs.Numbers.{hierarchy, ranked_methods}
use Rattle.cb_link.specs.Resolving.{static_one}
use Rattle.cb_link.proofs.resolver.Resolver.static_upwards.Given as goal

abbrev pub invariant-loop-number : goal.invariant-loop-number
invariant-loop-number l =
    first_some (map (λ number. static_one l.self (method_of (ranked_methods l.self) number l.signature)) (drop l.number-index l.number-items))
    ≡ first_some (map (λ number. static_one l.self (method_of (ranked_methods l.self) number l.signature)) (upwards (hierarchy l.self) l.class))
