use Rattle.cb_store_tests.proofs.MarkLaws.{behind_next, named_next}
use Rattle.cb_store_tests.proofs.cells.CellStore.next.Goals as goal

pub returns-in-Some : goal.returns-in-Some
returns-in-Some c = named_next c.args.self.now.objects c.args.roots.now.roots c.args.marked.now c.in-Some.place c.in-Some.ensures

pub returns-in-None : goal.returns-in-None
returns-in-None c = behind_next c.args.self.now.objects c.args.roots.now.roots c.args.marked.now c.behind.result c.in-None.ensures c.behind.ensures
