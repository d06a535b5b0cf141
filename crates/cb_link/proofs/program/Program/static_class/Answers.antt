use Rattle.std.proofs.Common.{◌<◌, length, subst}
use Rattle.cb_link.proofs.FieldPlaces.{within_classes}
use Rattle.cb_link.proofs.SlotPlaces.{static_within}
use Rattle.cb_link.proofs.program.Program.static_class.Goals as goal

pub linked_field-requires : goal.linked_field-requires
linked_field-requires c = static_within c.self.inside.base c.self.invariant.whole c.self.inside.tables.members.fields.statics c.args.slot c.get.result.now c.self.invariant.of_fields.statics c.get.ensures

pub returns-clause-within : goal.returns-clause-within
returns-clause-within c =
    subst (λ program. c.linked_field.result.now.class < length program.classes) c.self.view_is
    (within_classes c.self.inside.base c.get.result.now c.linked_field.result.now c.linked_field.ensures.placed)
