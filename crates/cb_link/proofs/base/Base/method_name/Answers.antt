use Rattle.std.proofs.Common.{◌∙◌, ap, sym, Some}
use Rattle.cb_link.proofs.PlacedLaws.{within_classes, within_methods}
use Rattle.cb_link.proofs.SpecialNames.{name_is}
use Rattle.cb_link.proofs.base.Base.method_name.Goals as goal

pub class-class-requires : goal.class-class-requires
class-class-requires c = within_classes c.args.self.now c.args.method c.linked-linked.result.now c.linked-linked.ensures.placed

pub get-record-requires : goal.get-record-requires
get-record-requires c = within_methods c.args.self.now c.args.method c.linked-linked.result.now c.linked-linked.ensures.placed c.class-class.result.now c.class-class.ensures

pub returns : goal.returns
returns c =
    name_is c.args.self.now c.args.method c.linked-linked.result.now c.linked-linked.ensures.placed c.class-class.result.now c.class-class.ensures c.get-record.result.now c.get-record.ensures
    ∙ sym (ap Some c.text_or_none.ensures)
