use Rattle.cb_dag.proofs.Duality.{reached_best, reached_shown}
use Rattle.cb_dag.proofs.certificates.reached_parts_are_best.Goals as goal

pub returns-clause-certificate : goal.returns-clause-certificate
returns-clause-certificate c = reached_shown

pub returns-clause-best : goal.returns-clause-best
returns-clause-best c = reached_best
