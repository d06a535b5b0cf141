use Rattle.cb_safety.proofs.Texted.{whole_texts}
use Rattle.cb_safety.proofs.programs.whole_has_texts.Goals as goal

pub returns : goal.returns
returns c = λ program text units whole formed is. whole_texts program whole formed text units is
