use Rattle.std.proofs.Common.{◌≡◌, ◌∙◌, ap, map, subst, sym}
use Rattle.std.specs.Prelude.{OnOk}
use Rattle.std.specs.List.{flat_map}
use Rattle.std.proofs.lemmas.List.Folds.{flat_map-map}
use Rattle.cb_kinds.specs.Kinds.{kinds_of_name}
use Rattle.cb_kinds.specs.Texts.{entered_all}
use Rattle.cb_link.proofs.FixedKinds.{fixed_table}
use Rattle.cb_link.proofs.kinds.enter_fixed.Goals as goal

pub returns : goal.returns
returns c =
    subst (λ kinds. OnOk c.enter_named.result (c.enter_named.new.kinds ≡ entered_all c.args.names.now kinds))
    (sym (flat_map-map kinds_of_name (λ name. name.now) c.as_slice.result.now)
    ∙ ap (flat_map kinds_of_name) (ap (map (λ name. name.now)) c.as_slice.ensures ∙ fixed_table)) c.enter_named.ensures
