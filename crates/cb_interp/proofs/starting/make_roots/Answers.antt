use Rattle.cb_interp.proofs.TurnsStartingFit.{few_classes}
use Rattle.cb_interp.proofs.starting.make_roots.Goals as goal

pub classes_of-requires : goal.classes_of-requires
classes_of-requires c = few_classes c.args.program.now c.requires
