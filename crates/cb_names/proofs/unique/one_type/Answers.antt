use Rattle.cb_names.proofs.Laws.{one_type}
use Rattle.cb_names.proofs.unique.one_type.Goals as goal

pub returns-clause-one : goal.returns-clause-one
returns-clause-one c = one_type
