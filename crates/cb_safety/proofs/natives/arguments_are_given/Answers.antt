use Rattle.cb_safety.proofs.NativeArguments.{arguments_are_given}
use Rattle.cb_safety.proofs.natives.arguments_are_given.Goals as goal

pub returns : goal.returns
returns c = arguments_are_given
