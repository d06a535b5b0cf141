use Rattle.std.proofs.Common.{Some, map}
use Rattle.cb_store_tests.specs.Cells.{HasArray}
use Rattle.cb_store_tests.proofs.map_heap.place_array.Given as goal

abbrev pub invariant-loop-i : goal.invariant-loop-i
invariant-loop-i l = HasArray l.count (map Some l.heap.objects)
