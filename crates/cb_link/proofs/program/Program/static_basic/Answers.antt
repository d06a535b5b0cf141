use Rattle.std.proofs.Common.{length, subst}
use Rattle.cb_link.specs.Having.{IsBelow}
use Rattle.cb_link.proofs.SlotPlaces.{static_within}
use Rattle.cb_link.proofs.program.Program.static_basic.Goals as goal

pub linked_field-requires : goal.linked_field-requires
linked_field-requires c = static_within c.self.inside.base c.self.invariant.whole c.self.inside.tables.members.fields.statics c.args.slot c.get.result.now c.self.invariant.of_fields.statics c.get.ensures

pub returns-clause-within : goal.returns-clause-within
returns-clause-within c = subst (λ program. IsBelow (length program.kinds) c.linked_field.result.now.basic) c.self.view_is c.linked_field.ensures.within
