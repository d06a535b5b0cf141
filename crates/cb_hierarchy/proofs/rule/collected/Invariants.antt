use Rattle.std.proofs.Common.{◌≡◌}
use Rattle.cb_hierarchy.proofs.rule.collected.Given as goal

abbrev pub invariant-loop-item : goal.invariant-loop-item
invariant-loop-item l = l.list ≡ l.yielded
