use Rattle.cb_runner.specs.declared.cause.Cause.TheVariants.{Usage}
use Rattle.cb_main.proofs.run.Goals as goal

pub returns-else-are_few-clause-status : goal.returns-else-are_few-clause-status
returns-else-are_few-clause-status c = (Usage, c.from.ensures)
