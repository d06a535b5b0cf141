use Rattle.std.proofs.Common.{◌≡◌, length, take}
use Rattle.cb_hierarchy.specs.InnerReaching.{AreFirst, among_if}
use Rattle.cb_hierarchy.proofs.selection.all_among.Given as goal

abbrev pub invariant-loop-number : goal.invariant-loop-number
invariant-loop-number l =
    (length l.among.items ≡ length l.methods) × AreFirst (length l.methods) (among_if l.hierarchy l.methods l.class (take l.number l.methods)) l.among.items
