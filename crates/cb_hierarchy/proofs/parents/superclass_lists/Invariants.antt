use Rattle.std.proofs.Common.{◌≡◌, map, take}
use Rattle.cb_hierarchy.specs.InnerRows.{superclass_named}
use Rattle.cb_hierarchy.proofs.parents.superclass_lists.Given as goal

abbrev pub invariant-loop-class : goal.invariant-loop-class
invariant-loop-class l = l.lists ≡ map superclass_named (take l.class-index l.class-items)
