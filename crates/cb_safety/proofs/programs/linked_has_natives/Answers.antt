use Rattle.cb_safety.proofs.LinkedNatives.{has_natives}
use Rattle.cb_safety.proofs.programs.linked_has_natives.Goals as goal

pub returns : goal.returns
returns c = has_natives
