use Rattle.std.proofs.Common.{◌∙◌}
use Rattle.cb_kinds.proofs.TextKeys.{none_after}
use Rattle.cb_kinds.proofs.basic.kind_number.Goals as goal

pub returns-in-None : goal.returns-in-None
returns-in-None c = c.len.ensures.length ∙ none_after c.args.kinds.now c.args.name.now c.in-None.ensures
