use Rattle.std.proofs.Common.{◌∙◌, add-one, sym}
use Rattle.cb_frames.specs.Entries.{entries}
use Rattle.cb_heap.specs.Kept.{is_held}
use Rattle.cb_store_tests.proofs.CellLaws.{all_more}
use Rattle.cb_store_tests.proofs.cells.held.holds_roots.Goals as goal

pub loop-i-preserved : goal.loop-i-preserved
loop-i-preserved c =
    rw add-one
    (all_more (is_held c.args.store.now.objects) (entries c.args.roots.now.roots) c.loop-i.i c.reference.result c.reference.ensures c.loop-i.invariant (sym c.holds.ensures ∙ c.if-not-holds.false))
