use Rattle.cb_safety.proofs.Streams.{has_start}
use Rattle.cb_safety.proofs.programs.linked_has_start.Goals as goal

pub returns : goal.returns
returns c = has_start
