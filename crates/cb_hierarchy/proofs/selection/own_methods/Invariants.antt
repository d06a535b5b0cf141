use Rattle.std.proofs.Common.{◌≡◌, length, take}
use Rattle.cb_hierarchy.specs.Members.{method_of}
use Rattle.cb_hierarchy.specs.InnerReaching.{AreFirst}
use Rattle.cb_hierarchy.proofs.selection.own_methods.Given as goal

abbrev pub invariant-loop-number : goal.invariant-loop-number
invariant-loop-number l =
    (length l.own.items ≡ length l.methods) × AreFirst (length l.methods) (method_of (take l.number l.methods) l.class) l.own.items
