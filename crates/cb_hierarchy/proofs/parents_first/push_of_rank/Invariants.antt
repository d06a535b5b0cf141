use Rattle.std.proofs.Common.{◌≡◌, ℕ, ◌++◌, List}
use Rattle.cb_hierarchy.specs.InnerRows.{AreOfRank}
use Rattle.cb_hierarchy.proofs.parents_first.push_of_rank.Given as goal

abbrev pub invariant-loop-class : goal.invariant-loop-class
invariant-loop-class l = (more : List ℕ) × (l.order ≡ l.fn.order ++ more) × AreOfRank l.ranks l.rank l.class more
