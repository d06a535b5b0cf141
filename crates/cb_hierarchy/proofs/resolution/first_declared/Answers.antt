use Rattle.std.proofs.Common.{refl}
use Rattle.cb_hierarchy.specs.Members.{method_of}
use Rattle.cb_hierarchy.proofs.SpecificLaws.{next_none, next_some}
use Rattle.cb_hierarchy.proofs.resolution.first_declared.Goals as goal

pub returns-in-Some : goal.returns-in-Some
returns-in-Some c =
    next_some (λ number. method_of c.args.methods.now number c.args.signature) c.args.numbers.now c.loop-number.number-index c.in-Some.method _
    c.loop-number-test.true c.loop-number.invariant c.in-Some.ensures

pub loop-number-preserved : goal.loop-number-preserved
loop-number-preserved c =
    next_none (λ number. method_of c.args.methods.now number c.args.signature) c.args.numbers.now c.loop-number.number-index _ _
    c.loop-number-test.true c.loop-number.invariant c.in_default.ensures refl
