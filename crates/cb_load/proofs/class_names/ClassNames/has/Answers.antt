use Rattle.std.proofs.Common.{◌∙◌, ap}
use Rattle.std.specs.List.{list_any}
use Rattle.cb_link.specs.Numbers.{same_name}
use Rattle.cb_load.proofs.LoadNames.{found_at}
use Rattle.cb_load.proofs.class_names.ClassNames.has.Goals as goal

pub returns : goal.returns
returns c = c.contains.ensures ∙ found_at c.args.name.now c.self.inside.names.keys ∙ ap (list_any (same_name c.args.name.now)) c.self.view_is
