use Rattle.cb_safety.proofs.Rooms.{standing_frames_fit}
use Rattle.cb_safety.proofs.room.standing_frames_fit.Goals as goal

pub returns : goal.returns
returns c = standing_frames_fit
