use Rattle.cb_runner.specs.declared.cause.Cause.TheVariants as causes
use Rattle.cb_main.proofs.end_without_words.Goals as goal

pub returns-in-OutOfMemory-clause-status : goal.returns-in-OutOfMemory-clause-status
returns-in-OutOfMemory-clause-status c = (causes.OutOfMemory, c.from.ensures)
