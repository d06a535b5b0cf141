use Rattle.cb_runner.proofs.OneCommand.{one_command}
use Rattle.cb_runner.proofs.law.one_command.Goals as goal

pub returns : goal.returns
returns c = one_command
