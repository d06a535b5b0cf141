use Rattle.cb_safety.proofs.Rooms.{covered_frames_fit}
use Rattle.cb_safety.proofs.room.covered_frames_fit.Goals as goal

pub returns : goal.returns
returns c = covered_frames_fit
