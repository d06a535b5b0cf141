use Rattle.std.proofs.Common.{◌∙◌, ap, ◌++◌, ◌∷◌, []}
use Rattle.std.specs.List.{list_any}
use Rattle.cb_load.specs.InnerUses.{is_use}
use Rattle.cb_load.proofs.UsedLaws.{added}
use Rattle.cb_load.proofs.uses.Uses.add.Goals as goal

pub returns : goal.returns
returns c =
    c.in_ok-insert.ensures.keys
    ∙ added c.self.inside.uses.keys c.args.usage (ap (list_any (is_use c.args.usage)) c.self.view_is ∙ c.requires)
    ∙ ap (λ uses. uses ++ c.args.usage ∷ []) c.self.view_is
