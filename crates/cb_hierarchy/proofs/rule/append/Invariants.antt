use Rattle.std.proofs.Common.{◌≡◌, ◌++◌, take}
use Rattle.cb_hierarchy.proofs.rule.append.Given as goal

abbrev pub invariant-loop-number : goal.invariant-loop-number
invariant-loop-number l = l.list ≡ l.fn.list ++ take l.number-index l.more
