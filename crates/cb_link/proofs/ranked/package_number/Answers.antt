use Rattle.std.proofs.Common.{◌∙◌}
use Rattle.cb_link.proofs.Ranks.{no_text}
use Rattle.cb_link.proofs.ranked.package_number.Goals as goal

pub returns-in-None : goal.returns-in-None
returns-in-None c = c.len.ensures.length ∙ no_text c.args.packages.now c.args.name.now c.in-None.ensures
