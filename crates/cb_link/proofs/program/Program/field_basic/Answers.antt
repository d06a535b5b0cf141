use Rattle.std.proofs.Common.{◌≡◌, Some, length, subst}
use Rattle.cb_link.specs.Having.{IsBelow}
use Rattle.cb_link.specs.Slots.{field_basic}
use Rattle.cb_link.proofs.SlotPlaces.{basic_is, field_within}
use Rattle.cb_link.proofs.program.Program.field_basic.Goals as goal

pub linked_field-requires : goal.linked_field-requires
linked_field-requires c =
    field_within c.self.inside.base c.self.invariant.whole c.self.inside.tables.members.fields.layouts c.args.class c.args.slot c.get.result.now c.get-layout.result.now
    c.self.invariant.of_fields.layouts c.get-layout.ensures c.get.ensures

pub returns-clause-basic : goal.returns-clause-basic
returns-clause-basic c =
    subst (λ program. field_basic program c.args.class c.args.slot ≡ Some c.linked_field.result.now.basic) c.self.view_is
    (basic_is c.self.inside.base c.self.invariant.whole c.self.inside.tables.members.fields.layouts c.args.class c.args.slot c.get.result.now c.get-layout.result.now
    c.self.invariant.of_fields.layouts c.get-layout.ensures c.get.ensures c.linked_field.result.now c.linked_field.ensures.found)

pub returns-clause-within : goal.returns-clause-within
returns-clause-within c = subst (λ program. IsBelow (length program.kinds) c.linked_field.result.now.basic) c.self.view_is c.linked_field.ensures.within
