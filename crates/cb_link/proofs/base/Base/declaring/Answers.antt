use Rattle.std.proofs.Common.{◌∙◌, ap, Some}
use Rattle.std.specs.Prelude.{option_map, slice_get}
use Rattle.cb_classfile.specs.declared.field.Field.{Field}
use Rattle.cb_link.specs.Numbers.{Numbered}
use Rattle.cb_link.proofs.FieldPlaces.{class_is, pool_is, within_classes}
use Rattle.cb_link.proofs.base.Base.declaring.Goals as goal

pub class-requires : goal.class-requires
class-requires c = within_classes c.args.self.now c.args.field c.linked_field-linked.result.now c.linked_field-linked.ensures.placed

pub returns : goal.returns
returns c =
    let program = c.args.self.now in
    let has = c.linked_field-linked.ensures.placed in
    record {
      class =
          ap (option_map (λ (numbered : Numbered Field). slice_get program.classes numbered.class)) has.there
          ∙ ap Some (ap (λ class. slice_get program.classes class) (class_is program c.args.field c.linked_field-linked.result.now has) ∙ c.class.ensures);
      pool =
          ap (option_map (λ (numbered : Numbered Field). numbered.pool)) has.there
          ∙ ap Some (pool_is program c.args.field c.linked_field-linked.result.now has c.class.result.now c.class.ensures);
    }
