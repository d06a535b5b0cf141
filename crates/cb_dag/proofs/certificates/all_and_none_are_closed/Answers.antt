use Rattle.cb_dag.proofs.Duality.{all_closed, none_closed, nothing_best}
use Rattle.cb_dag.proofs.certificates.all_and_none_are_closed.Goals as goal

pub returns-clause-all : goal.returns-clause-all
returns-clause-all c = all_closed

pub returns-clause-none : goal.returns-clause-none
returns-clause-none c = none_closed

pub returns-clause-nothing : goal.returns-clause-nothing
returns-clause-nothing c = nothing_best
