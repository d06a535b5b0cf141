use Rattle.std.proofs.Common.{ap, map, refl}
use Rattle.cb_hierarchy.specs.Members.{field_of}
use Rattle.cb_hierarchy.specs.Resolution.{first_some}
use Rattle.cb_hierarchy.proofs.SpecificLaws.{last_none, next_none, next_some}
use Rattle.cb_hierarchy.proofs.resolution.resolved_field.Goals as goal

pub loop-number-init : goal.loop-number-init
loop-number-init c = ap (λ numbers. first_some (map (λ number. field_of c.args.fields.now number c.args.signature) numbers)) c.lookup_order-number-items.ensures

pub returns-in-Some : goal.returns-in-Some
returns-in-Some c =
    next_some (λ number. field_of c.args.fields.now number c.args.signature) c.lookup_order-number-items.result.now c.loop-number.number-index c.in-Some.field _
    c.loop-number-test.true c.loop-number.invariant c.in-Some.ensures

pub loop-number-preserved : goal.loop-number-preserved
loop-number-preserved c =
    next_none (λ number. field_of c.args.fields.now number c.args.signature) c.lookup_order-number-items.result.now c.loop-number.number-index _ _
    c.loop-number-test.true c.loop-number.invariant c.in_default.ensures refl

pub returns : goal.returns
returns c =
    last_none (λ number. field_of c.args.fields.now number c.args.signature) c.lookup_order-number-items.result.now c.loop-number.number-index _
    c.loop-number-test.false c.loop-number.invariant
