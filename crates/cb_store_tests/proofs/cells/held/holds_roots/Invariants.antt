use Rattle.std.proofs.Common.{take, IsTrue}
use Rattle.std.specs.List.{list_all}
use Rattle.cb_frames.specs.Entries.{entries}
use Rattle.cb_heap.specs.Kept.{is_held}
use Rattle.cb_store_tests.proofs.cells.held.holds_roots.Given as goal

abbrev pub invariant-loop-i : goal.invariant-loop-i
invariant-loop-i l = IsTrue (list_all (is_held l.store.objects) (take l.i (entries l.roots.roots)))
