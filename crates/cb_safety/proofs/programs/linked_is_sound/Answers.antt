use Rattle.cb_safety.proofs.Sound.{linked_sound}
use Rattle.cb_safety.proofs.programs.linked_is_sound.Goals as goal

pub returns : goal.returns
returns c = linked_sound
