use Rattle.cb_safety.proofs.StaticNames.{names_static}
use Rattle.cb_safety.proofs.programs.instructions_name_statics.Goals as goal

pub returns : goal.returns
returns c = names_static
