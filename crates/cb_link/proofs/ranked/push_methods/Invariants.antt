use Rattle.std.proofs.Common.{◌≡◌, ◌++◌, map, take}
use Rattle.cb_link.specs.InnerRanks.{rank_method}
use Rattle.cb_link.proofs.ranked.push_methods.Given as goal

abbrev pub invariant-loop-method : goal.invariant-loop-method
invariant-loop-method l = l.ranked ≡ l.initial.ranked ++ map (rank_method l.texts l.number l.pool) (take l.method-index l.methods)
