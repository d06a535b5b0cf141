use Rattle.cb_link.proofs.PlacedLaws.{is_record, within_classes, within_methods}
use Rattle.cb_link.proofs.program.Program.method.Goals as goal

pub class-class-requires : goal.class-class-requires
class-class-requires c = within_classes c.args.self.now c.args.method c.linked-linked.result.now c.linked-linked.ensures.placed

pub get-requires : goal.get-requires
get-requires c = within_methods c.args.self.now c.args.method c.linked-linked.result.now c.linked-linked.ensures.placed c.class-class.result.now c.class-class.ensures

pub returns : goal.returns
returns c = is_record c.args.self.now c.args.method c.linked-linked.result.now c.linked-linked.ensures.placed c.class-class.result.now c.class-class.ensures c.get.result.now c.get.ensures
