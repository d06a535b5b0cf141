use Rattle.std.proofs.Common.{◌∙◌, ap}
use Rattle.std.specs.FinMap.{insert}
use Rattle.std.specs.String.{string_bytes}
use Rattle.std.proofs.lemmas.Map.Text.{btree_map_updates_text}
use Rattle.cb_io.proofs.Files.{one_put}
use Rattle.cb_io.proofs.sure_folder.SureFolder.put.Goals as goal

pub returns-clause-ok : goal.returns-clause-ok
returns-clause-ok c =
    one_put c.self.inside.files c.insert.new.self (string_bytes c.in_ok-path.path) c.args.bytes (btree_map_updates_text _ c.self.inside.files c.insert.new.self _ c.in_ok-insert.ensures.updates)
    ∙ ap (λ m. insert m (string_bytes c.in_ok-path.path) c.args.bytes.items) c.self.view_is
    ∙ ap (λ p. insert c.args.self.now p c.args.bytes.items) c.in_ok-path.ensures.ok
