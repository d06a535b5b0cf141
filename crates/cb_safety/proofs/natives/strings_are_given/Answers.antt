use Rattle.cb_safety.proofs.Given.{strings_are_given}
use Rattle.cb_safety.proofs.natives.strings_are_given.Goals as goal

pub returns : goal.returns
returns c = strings_are_given
