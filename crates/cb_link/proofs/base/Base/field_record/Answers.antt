use Rattle.std.proofs.Common.{◌∙◌, ap, Some}
use Rattle.std.specs.Prelude.{option_map}
use Rattle.cb_classfile.specs.declared.field.Field.{Field}
use Rattle.cb_link.specs.Numbers.{Numbered}
use Rattle.cb_link.proofs.FieldPlaces.{member_is, within_classes, within_fields}
use Rattle.cb_link.proofs.base.Base.field_record.Goals as goal

pub class-class-requires : goal.class-class-requires
class-class-requires c = within_classes c.args.self.now c.args.field c.linked_field-linked.result.now c.linked_field-linked.ensures.placed

pub get-requires : goal.get-requires
get-requires c = within_fields c.args.self.now c.args.field c.linked_field-linked.result.now c.linked_field-linked.ensures.placed c.class-class.result.now c.class-class.ensures

pub returns : goal.returns
returns c =
    let has = c.linked_field-linked.ensures.placed in
    ap (option_map (λ (numbered : Numbered Field). numbered.member)) has.there
    ∙ ap Some (member_is c.args.self.now c.args.field c.linked_field-linked.result.now has c.class-class.result.now c.class-class.ensures c.get.result.now c.get.ensures)
