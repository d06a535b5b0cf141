use Rattle.std.proofs.Common.{◌-◌, ◌≤◌, length}
use Rattle.cb_hierarchy.specs.Inner.{list_at}
use Rattle.cb_hierarchy.proofs.Closing.{AreReached}
use Rattle.cb_hierarchy.proofs.ancestors.reached.Given as goal

abbrev pub invariant-loop-next : goal.invariant-loop-next
invariant-loop-next l = record {
  inside : l.next ≤ length l.found.numbers;
  reached : AreReached (list_at l.lists) l.class l.next l.found.numbers l.found.marks;
}

abbrev pub decreases-loop-next : goal.decreases-loop-next
decreases-loop-next l = length l.lists - l.next
