use Rattle.std.proofs.Common.{◌≡◌, ℕ, ◌<◌, length, take}
use Rattle.std.specs.List.{Contains}
use Rattle.cb_hierarchy.specs.Inner.{MarksList}
use Rattle.cb_hierarchy.proofs.marks.Marks.of.Given as goal

abbrev pub invariant-loop-number : goal.invariant-loop-number
invariant-loop-number l = record {
  marked : MarksList (take l.number-index l.numbers) l.marks;
  length : ((number : ℕ) → Contains l.numbers number → number < l.fn.count) → length l.marks ≡ l.fn.count;
}
