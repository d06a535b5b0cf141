use Rattle.std.proofs.Common.{◌≡◌, take}
use Rattle.std.specs.List.{flat_map}
use Rattle.cb_kinds.specs.Texts.{entered_all}
use Rattle.cb_link.proofs.loaded_texts.enter_each.Given as goal

abbrev pub invariant-loop-item : goal.invariant-loop-item
invariant-loop-item g l = l.texts ≡ entered_all l.initial.texts (flat_map (g.T.Loading.loaded l.pool) (take l.item-index l.items))
