use Rattle.std.proofs.Common.{◌≤◌, ℕ}
use Rattle.cb_store_tests.specs.Marks.{IsBehind}
use Rattle.cb_store_tests.proofs.cells.CellStore.behind.Given as goal

abbrev pub invariant-loop-i : goal.invariant-loop-i
invariant-loop-i l = (place : ℕ) → (it : IsBehind l.self.objects l.marked place) → l.i ≤ it.one
