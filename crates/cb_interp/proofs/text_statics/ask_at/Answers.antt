use Rattle.cb_interp.specs.TextStatics.{AskedNew}
use Rattle.cb_interp.proofs.text_statics.ask_at.Goals as goal

pub ask_text-requires-clause-text : goal.ask_text-requires-clause-text
ask_text-requires-clause-text c = (c.requires.may c.args.slot c.in-Some.text c.requires.slot c.in-Some.ensures.text).0

pub returns-in-Some : goal.returns-in-Some
returns-in-Some c = AskedNew c.in-Some.text c.in-Some.ensures.text c.in-Some.ensures.new c.in-Some.ensures.first c.ask_text.ensures
