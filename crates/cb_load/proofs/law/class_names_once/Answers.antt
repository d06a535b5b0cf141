use Rattle.cb_load.proofs.NamesOnce.{names_once}
use Rattle.cb_load.proofs.law.class_names_once.Goals as goal

pub returns : goal.returns
returns c = names_once
