use Rattle.std.proofs.Common.{◌≡◌, map, take}
use Rattle.cb_hierarchy.specs.InnerRows.{all_named}
use Rattle.cb_hierarchy.proofs.parents.parent_lists.Given as goal

abbrev pub invariant-loop-class : goal.invariant-loop-class
invariant-loop-class l = l.lists ≡ map all_named (take l.class-index l.class-items)
