use Rattle.std.proofs.Common.{◌≡◌, take}
use Rattle.std.specs.List.{flat_map}
use Rattle.cb_hierarchy.specs.Classes.{listed}
use Rattle.cb_link.specs.InnerRanks.{number_at}
use Rattle.cb_link.proofs.ranked.numbers_at.Given as goal

abbrev pub invariant-loop-index : goal.invariant-loop-index
invariant-loop-index l = l.numbers ≡ flat_map (λ index. listed (number_at l.names l.pool index)) (take l.index-index l.indices)
