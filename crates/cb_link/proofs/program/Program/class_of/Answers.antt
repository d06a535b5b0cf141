use Rattle.cb_link.proofs.PlacedLaws.{within_classes}
use Rattle.cb_link.proofs.program.Program.class_of.Goals as goal

pub returns-clause-within : goal.returns-clause-within
returns-clause-within c = within_classes c.args.self.now c.args.method c.linked.result.now c.linked.ensures.placed
