use Rattle.cb_store_tests.proofs.CellLaws.{entries_closed}
use Rattle.cb_store_tests.proofs.cells.held.is_closed.Goals as goal

pub returns-then-holds_roots : goal.returns-then-holds_roots
returns-then-holds_roots c is =
    entries_closed c.args.store.now.objects c.args.roots.now.roots (c.holds_roots.ensures c.if-holds_roots.true) (c.holds_words.ensures is)
