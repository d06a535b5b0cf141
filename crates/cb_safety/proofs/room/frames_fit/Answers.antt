use Rattle.cb_safety.proofs.Rooms.{frames_fit}
use Rattle.cb_safety.proofs.room.frames_fit.Goals as goal

pub returns : goal.returns
returns c = frames_fit
