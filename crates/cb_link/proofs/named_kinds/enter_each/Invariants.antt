use Rattle.std.proofs.Common.{◌≡◌, take}
use Rattle.std.specs.List.{flat_map}
use Rattle.cb_kinds.specs.Texts.{entered_all}
use Rattle.cb_link.proofs.named_kinds.enter_each.Given as goal

abbrev pub invariant-loop-item : goal.invariant-loop-item
invariant-loop-item g l = l.kinds ≡ entered_all l.initial.kinds (flat_map (g.T.Kinded.named l.pool) (take l.item-index l.items))
