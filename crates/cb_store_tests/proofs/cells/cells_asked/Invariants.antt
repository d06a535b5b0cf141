use Rattle.std.proofs.Common.{◌≡◌, take}
use Rattle.cb_store_tests.specs.FourCells.{cells_asked}
use Rattle.cb_store_tests.proofs.cells.cells_asked.Given as goal

abbrev pub invariant-loop-i : goal.invariant-loop-i
invariant-loop-i l = l.cells ≡ cells_asked (take l.i l.request)
