use Rattle.std.proofs.Common.{◌≡◌, ◌+◌, ◌*◌, ◌-◌, ◌∷◌, [], Some, map}
use Rattle.cb_store_tests.specs.Cells.{cells, two_kinds}
use Rattle.cb_store_tests.proofs.map_heap.place_cells.Given as goal

abbrev pub invariant-loop-number : goal.invariant-loop-number
invariant-loop-number l = (l.heap.shapes ≡ two_kinds) × (map Some l.heap.objects ≡ cells l.number) × (l.heap.granted ≡ record { site = 7; words = 5 * (l.count - l.number) + l.more } ∷ [])
