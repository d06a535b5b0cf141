use Rattle.cb_interp.proofs.LinkedFit.{thrown_low}
use Rattle.cb_interp.proofs.need_turns.throw_need.Goals as goal

pub throw_of-requires : goal.throw_of-requires
throw_of-requires g c = λ κs lives. (lives, (c.requires.1.0, (thrown_low c.args.site c.requires.1.1.0, (c.linked_programs_fit.ensures.machine c.args.program.now c.requires.1.0.linked c.args.site c.requires.1.1.0, c.requires.1.1.1))))
