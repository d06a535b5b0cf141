use Rattle.cb_interp.proofs.TextsThere.{exception_said}
use Rattle.cb_interp.proofs.texts.exceptions_say_their_text.Goals as goal

pub returns : goal.returns
returns c = λ call place message exception units there stored is. exception_said call exception units place message there stored is
