use Rattle.cb_frames.proofs.Laws.{entries_are_roots}
use Rattle.cb_frames.proofs.law.entries_are_roots.Goals as goal

pub returns : goal.returns
returns c = entries_are_roots
