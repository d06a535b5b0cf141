use Rattle.std.proofs.Common.{pred, subst, sym}
use Rattle.cb_heap.specs.Closed.{Collects}
use Rattle.cb_heap.specs.Kept.{residents}
use Rattle.cb_heap.specs.Reading.{seen}
use Rattle.cb_heap.specs.Taking.{IsTaken}
use Rattle.cb_store_tests.specs.FourCells.{every_site}
use Rattle.cb_store_tests.proofs.MarkLaws.{marked_collects, marked_taken}
use Rattle.cb_store_tests.proofs.cells.CellStore.collect.Goals as goal

pub returns-clause-taken : goal.returns-clause-taken
returns-clause-taken c =
    subst (λ objects. IsTaken every_site (seen pred c.args.self.now.objects c.args.roots.now.roots) (residents objects)) (sym c.only.ensures.objects)
    (marked_taken (seen pred c.args.self.now.objects c.args.roots.now.roots) c.mark-marked.result c.requires c.only.ensures.few c.mark-marked.ensures)

pub returns-clause-collected : goal.returns-clause-collected
returns-clause-collected c =
    subst (λ objects. Collects (seen pred c.args.self.now.objects c.args.roots.now.roots) (seen pred objects c.args.roots.now.roots)) (sym c.only.ensures.objects)
    (marked_collects (seen pred c.args.self.now.objects c.args.roots.now.roots) c.mark-marked.result c.requires c.only.ensures.few c.mark-marked.ensures)
