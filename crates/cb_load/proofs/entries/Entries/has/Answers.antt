use Rattle.std.proofs.Common.{◌∙◌, ap}
use Rattle.std.specs.List.{list_any}
use Rattle.cb_load.specs.InnerEntering.{is_same}
use Rattle.cb_load.proofs.EnteredKeys.{found}
use Rattle.cb_load.proofs.entries.Entries.has.Goals as goal

-- src/entries.rt:125:5
pub returns : goal.returns
returns c = c.contains.ensures ∙ found _ c.self.inside.keys.keys ∙ ap (list_any (is_same _)) c.self.view_is
