use Rattle.std.proofs.Common.{ℕ, ◌<◌, length}
use Rattle.std.specs.List.{Contains}
use Rattle.cb_hierarchy.specs.Classes.{parents}
use Rattle.cb_tests.proofs.samples.are_classes.Given as goal

abbrev pub invariant-loop-class : goal.invariant-loop-class
invariant-loop-class l = (k : ℕ) → k < l.class-index → (number : ℕ) → Contains (parents l.class-items k) number → number < length l.class-items
