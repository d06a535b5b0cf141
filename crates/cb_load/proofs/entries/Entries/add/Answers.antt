use Rattle.std.proofs.Common.{◌∙◌, ap, map}
use Rattle.std.specs.List.{list_any}
use Rattle.cb_load.specs.Closure.{covers}
use Rattle.cb_load.specs.Inner.{entered}
use Rattle.cb_load.specs.InnerEntering.{key_entry}
use Rattle.cb_load.proofs.EnteredKeys.{inserted}
use Rattle.cb_load.proofs.entries.Entries.add.Goals as goal

pub returns : goal.returns
returns c =
    ap (map key_entry) c.in_ok-insert.ensures.keys
    ∙ inserted c.self.inside.keys.keys c.args.key (ap (list_any (λ before. covers before (key_entry c.args.key))) c.self.view_is ∙ c.requires)
    ∙ ap (λ entries. entered entries (key_entry c.args.key)) c.self.view_is
