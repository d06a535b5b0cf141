use Rattle.std.proofs.Common.{take}
use Rattle.std.specs.List.{flat_map}
use Rattle.cb_load.specs.InnerUses.{Enters}
use Rattle.cb_load.proofs.names.enter_each.Given as goal

abbrev pub invariant-loop-item : goal.invariant-loop-item
invariant-loop-item g l = Enters l.pool (flat_map (g.T.Naming.names l.pool) (take l.item-index l.items)) l.initial.entries l.uses l.entries
