use Rattle.std.proofs.Common.{◌≡◌, map, take}
use Rattle.cb_link.specs.InnerCounts.{count_above}
use Rattle.cb_link.proofs.slots.counts_above.Given as goal

abbrev pub invariant-loop-class : goal.invariant-loop-class
invariant-loop-class l = l.counts.items ≡ map (count_above l.layouts) (take l.class-index l.classes)
