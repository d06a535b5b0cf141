use Rattle.cb_safety.proofs.Rooms.{caught_fits}
use Rattle.cb_safety.proofs.room.caught_fits.Goals as goal

pub returns : goal.returns
returns c = caught_fits
