use Rattle.cb_names.proofs.Laws.{one_method_type}
use Rattle.cb_names.proofs.unique.one_method_type.Goals as goal

pub returns : goal.returns
returns c = one_method_type
