use Rattle.cb_dag.proofs.Duality.{shows_greatest, shows_none_more}
use Rattle.cb_dag.proofs.certificates.certificates_show.Goals as goal

pub returns-clause-sets : goal.returns-clause-sets
returns-clause-sets c = shows_none_more

pub returns-clause-flows : goal.returns-clause-flows
returns-clause-flows c = shows_greatest
