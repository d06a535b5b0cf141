use Rattle.std.proofs.Common.{◌≡◌, ℕ, ◌<◌, false}
use Rattle.cb_hierarchy.specs.InnerFinals.{is_bad}
use Rattle.cb_hierarchy.proofs.bad.first_bad.Given as goal

abbrev pub invariant-loop-number : goal.invariant-loop-number
invariant-loop-number l = (other : ℕ) → other < l.number → is_bad l.classes l.above-inside.rows.items l.overriding-inside.marks.items other ≡ false
