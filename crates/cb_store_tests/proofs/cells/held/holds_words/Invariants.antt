use Rattle.std.proofs.Common.{take, IsTrue}
use Rattle.std.specs.List.{flat_map, list_all}
use Rattle.cb_heap.specs.Closed.{references_in_entry}
use Rattle.cb_heap.specs.Kept.{is_held}
use Rattle.cb_store_tests.proofs.cells.held.holds_words.Given as goal

abbrev pub invariant-loop-i : goal.invariant-loop-i
invariant-loop-i l = IsTrue (list_all (is_held l.store.objects) (flat_map references_in_entry (take l.i l.store.objects)))
