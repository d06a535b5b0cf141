use Rattle.std.proofs.Common.{◌≡◌, take}
use Rattle.std.specs.List.{enumerate_from, flat_map}
use Rattle.cb_link.specs.InnerRanks.{methods_of_class}
use Rattle.cb_link.proofs.ranked.rank_methods.Given as goal

abbrev pub invariant-loop-index : goal.invariant-loop-index
invariant-loop-index l = l.ranked ≡ flat_map (methods_of_class l.texts) (enumerate_from 0 (take l.index l.classes))
