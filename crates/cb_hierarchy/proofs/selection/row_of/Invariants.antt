use Rattle.std.proofs.Common.{◌≡◌, length}
use Rattle.cb_hierarchy.specs.InnerReaching.{AreFirst, entry_by}
use Rattle.cb_hierarchy.proofs.selection.row_of.Given as goal

abbrev pub invariant-loop-resolved : goal.invariant-loop-resolved
invariant-loop-resolved l =
    (length l.row.items ≡ l.resolved) × AreFirst l.resolved (entry_by l.hierarchy l.methods l.rows l.superclass l.class) l.row.items
