use Rattle.cb_safety.proofs.Kinded.{names_kind}
use Rattle.cb_safety.proofs.programs.instructions_name_kinds.Goals as goal

pub returns : goal.returns
returns c = names_kind
