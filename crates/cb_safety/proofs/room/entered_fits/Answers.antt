use Rattle.cb_safety.proofs.Arguments.{entered_fits}
use Rattle.cb_safety.proofs.room.entered_fits.Goals as goal

pub returns : goal.returns
returns c = entered_fits
