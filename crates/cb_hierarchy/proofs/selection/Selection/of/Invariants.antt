use Rattle.std.proofs.Common.{◌≡◌, ℕ, length, take}
use Rattle.std.specs.List.{Contains}
use Rattle.cb_hierarchy.specs.InnerReaching.{IsMade}
use Rattle.cb_hierarchy.proofs.selection.Selection.of.Given as goal

abbrev pub invariant-loop-class : goal.invariant-loop-class
invariant-loop-class l =
    (length l.rows.items ≡ length l.hierarchy)
    × ((done : ℕ) → Contains (take l.class-index l.class-items) done → IsMade l.hierarchy l.methods l.rows.items done)
