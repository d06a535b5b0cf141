use Rattle.std.proofs.Common.{◌∙◌, ap, map, refl, sym}
use Rattle.cb_hierarchy.specs.Inner.{of_objects}
use Rattle.cb_hierarchy.specs.Members.{method_of}
use Rattle.cb_hierarchy.specs.Orders.{upwards}
use Rattle.cb_hierarchy.specs.Resolution.{first_some}
use Rattle.cb_hierarchy.proofs.SpecificLaws.{first_kept, last_none, next_none, next_some}
use Rattle.cb_hierarchy.proofs.upward.first_upwards.Goals as goal

pub loop-number-init : goal.loop-number-init
loop-number-init c =
    let methods = c.args.methods.now in
    ap (λ numbers. first_some (map (λ number. of_objects methods (method_of methods number c.args.signature)) numbers)) c.upwards-number-items.ensures
    ∙ sym (first_kept methods (λ number. method_of methods number c.args.signature) (upwards c.args.hierarchy.now c.args.class))

pub returns-in-Some : goal.returns-in-Some
returns-in-Some c =
    next_some (λ number. of_objects c.args.methods.now (method_of c.args.methods.now number c.args.signature)) c.upwards-number-items.result.now c.loop-number.number-index c.in-Some.method _
    c.loop-number-test.true c.loop-number.invariant c.in-Some.ensures

pub loop-number-preserved : goal.loop-number-preserved
loop-number-preserved c =
    next_none (λ number. of_objects c.args.methods.now (method_of c.args.methods.now number c.args.signature)) c.upwards-number-items.result.now c.loop-number.number-index _ _
    c.loop-number-test.true c.loop-number.invariant c.in_default.ensures refl

pub returns : goal.returns
returns c =
    last_none (λ number. of_objects c.args.methods.now (method_of c.args.methods.now number c.args.signature)) c.upwards-number-items.result.now c.loop-number.number-index _
    c.loop-number-test.false c.loop-number.invariant
