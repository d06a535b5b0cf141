use Rattle.cb_safety.proofs.ArrayWords.{arrays_measured}
use Rattle.cb_safety.proofs.words.arrays_measured.Goals as goal

pub returns : goal.returns
returns c = arrays_measured
