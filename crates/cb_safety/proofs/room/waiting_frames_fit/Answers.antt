use Rattle.cb_safety.proofs.Rooms.{waiting_frames_fit}
use Rattle.cb_safety.proofs.room.waiting_frames_fit.Goals as goal

pub returns : goal.returns
returns c = waiting_frames_fit
