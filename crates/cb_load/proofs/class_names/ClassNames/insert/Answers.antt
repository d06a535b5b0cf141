use Rattle.std.proofs.Common.{◌∙◌, ◌||◌, ap, map}
use Rattle.std.specs.List.{list_any}
use Rattle.cb_link.specs.Numbers.{same_name}
use Rattle.cb_load.proofs.LoadNames.{inserted}
use Rattle.cb_load.proofs.class_names.ClassNames.insert.Goals as goal

pub returns : goal.returns
returns c = λ other.
    ap (λ keys. list_any (same_name other) (map (λ key. key.items) keys)) c.in_ok-insert.ensures.keys
    ∙ inserted other c.in_ok-key.key c.self.inside.names.keys
    ∙ (λ i. same_name other (c.in_ok-key.ensures.items i) || list_any (same_name other) (c.self.view_is i))
