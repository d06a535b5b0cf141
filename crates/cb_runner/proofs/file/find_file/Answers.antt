use Rattle.cb_runner.proofs.Endings.{some_file}
use Rattle.cb_runner.proofs.file.find_file.Goals as goal

pub returns-in-Ok-clause-found : goal.returns-in-Ok-clause-found
returns-in-Ok-clause-found g c = some_file _ _ c.in-Ok.found c.in-Ok.ensures.found c.in-Ok.ensures.within
