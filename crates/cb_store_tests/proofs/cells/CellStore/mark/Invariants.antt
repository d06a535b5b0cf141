use Rattle.std.proofs.Common.{◌≡◌, ℕ, length, pred, slice_get, Some, suc, true}
use Rattle.cb_plain.specs.Reach.{IsReached}
use Rattle.cb_heap.specs.Reading.{read_roots}
use Rattle.cb_store_tests.proofs.MarkLaws.{unmarked_in}
use Rattle.cb_store_tests.proofs.cells.CellStore.mark.Given as goal

abbrev pub invariant-loop-place : goal.invariant-loop-place
invariant-loop-place l = record {
  four : length l.marked ≡ 4;
  reached : (place : ℕ) → slice_get l.marked place ≡ Some true → IsReached (read_roots pred l.roots.roots) l.self.objects (suc place);
}

abbrev pub decreases-loop-place : goal.decreases-loop-place
decreases-loop-place l = unmarked_in l.marked
