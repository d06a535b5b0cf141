use Rattle.std.proofs.Common.{ℕ, ◌++◌, List, take}
use Rattle.cb_hierarchy.specs.Inner.{AreDistinct}
use Rattle.cb_hierarchy.proofs.distinct.Distinct.append.Given as goal

abbrev pub invariant-loop-number : goal.invariant-loop-number
invariant-loop-number l =
    (taken : List ℕ) → AreDistinct taken l.fn.self.numbers l.fn.self.marks → AreDistinct (taken ++ take l.number-index l.numbers) l.self.numbers l.self.marks
