use Rattle.std.proofs.Common.{refl}
use Rattle.cb_hierarchy.specs.Members.{method_of}
use Rattle.cb_link.specs.Numbers.{ranked_methods}
use Rattle.cb_link.specs.Resolving.{static_one}
use Rattle.cb_link.proofs.Finding.{next_none, next_some}
use Rattle.cb_link.proofs.resolver.Resolver.static_upwards.Goals as goal

pub returns-in-Some : goal.returns-in-Some
returns-in-Some c =
    next_some (λ number. static_one c.args.self.now (method_of (ranked_methods c.args.self.now) number c.args.signature)) c.upwards-number-items.result.now c.loop-number.number-index c.in-Some.method _
    c.loop-number-test.true c.loop-number.invariant c.in-Some.ensures

pub loop-number-preserved : goal.loop-number-preserved
loop-number-preserved c =
    next_none (λ number. static_one c.args.self.now (method_of (ranked_methods c.args.self.now) number c.args.signature)) c.upwards-number-items.result.now c.loop-number.number-index _ _
    c.loop-number-test.true c.loop-number.invariant c.in_default.ensures refl
