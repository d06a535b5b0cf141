use Rattle.cb_link.proofs.SlotPlaces.{static_within}
use Rattle.cb_link.proofs.program.Program.static_name.Goals as goal

pub field_record-field-requires : goal.field_record-field-requires
field_record-field-requires c = static_within c.self.inside.base c.self.invariant.whole c.self.inside.tables.members.fields.statics c.args.slot c.get-number.result.now c.self.invariant.of_fields.statics c.get-number.ensures

pub declaring-requires : goal.declaring-requires
declaring-requires c = static_within c.self.inside.base c.self.invariant.whole c.self.inside.tables.members.fields.statics c.args.slot c.get-number.result.now c.self.invariant.of_fields.statics c.get-number.ensures
