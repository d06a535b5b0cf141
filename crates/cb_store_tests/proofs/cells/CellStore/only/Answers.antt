use Rattle.std.proofs.Common.{refl, false}
use Rattle.cb_store_tests.proofs.CellLaws.{keeps_four}
use Rattle.cb_store_tests.proofs.cells.CellStore.only.Goals as goal

pub returns-clause-objects : goal.returns-clause-objects
returns-clause-objects c =
    rw (← c.self.view_is)
    (keeps_four c.self.inside.cells c.args.marked.now c.self.inside.count (record { kept = false; site = 0; linked = false; word = 0 }) false _ c.self.invariant.1 c.told-marked
    (rw (c.lower.ensures, c.lower-2.ensures, c.lower-3.ensures, c.lower-4.ensures) refl))
