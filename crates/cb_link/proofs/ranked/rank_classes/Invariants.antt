use Rattle.std.proofs.Common.{◌≡◌, map, take}
use Rattle.cb_link.specs.InnerRanks.{package_name, rank}
use Rattle.cb_link.proofs.ranked.rank_classes.Given as goal

abbrev pub invariant-loop-class : goal.invariant-loop-class
invariant-loop-class l = (l.packages ≡ map package_name l.classes) × (l.ranked ≡ map (rank l.names l.packages) (take l.class-index l.classes))
