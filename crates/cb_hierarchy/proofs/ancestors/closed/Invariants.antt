use Rattle.std.proofs.Common.{◌≡◌, ℕ, ◌<◌, length}
use Rattle.cb_hierarchy.specs.Inner.{list_at}
use Rattle.cb_hierarchy.specs.InnerRows.{ListsAbove}
use Rattle.cb_hierarchy.proofs.ancestors.closed.Given as goal

abbrev pub invariant-loop-class : goal.invariant-loop-class
invariant-loop-class l = record {
  as_many : length l.above ≡ l.class;
  lists : (class : ℕ) → class < l.class → ListsAbove (list_at l.lists) class (list_at l.above class);
}
