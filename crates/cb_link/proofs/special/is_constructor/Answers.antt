use Rattle.std.proofs.Common.{◌∙◌}
use Rattle.cb_link.proofs.SpecialNames.{constructor_is}
use Rattle.cb_link.proofs.special.is_constructor.Goals as goal

pub returns : goal.returns
returns c = c.is_init.ensures ∙ constructor_is c.args.base.now.classes c.args.method c.method_name.result.now c.method_name.ensures
