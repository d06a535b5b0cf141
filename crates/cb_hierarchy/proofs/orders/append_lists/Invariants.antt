use Rattle.std.proofs.Common.{ℕ, ◌++◌, List, take}
use Rattle.std.specs.List.{flat_map}
use Rattle.cb_hierarchy.specs.Inner.{AreDistinct, list_at}
use Rattle.cb_hierarchy.proofs.orders.append_lists.Given as goal

abbrev pub invariant-loop-number : goal.invariant-loop-number
invariant-loop-number l =
    (taken : List ℕ) → AreDistinct taken l.fn.found.numbers l.fn.found.marks → AreDistinct (taken ++ flat_map (list_at l.lists) (take l.number-index l.numbers)) l.found.numbers l.found.marks
