use Rattle.std.proofs.Common.{arith, false}
use Rattle.cb_store_tests.proofs.CellLaws.{held_beyond, held_within}
use Rattle.cb_store_tests.proofs.cells.held.holds.Goals as goal

pub returns-then-to-store : goal.returns-then-to-store
returns-then-to-store c = rw (← c.store.view_is) (held_beyond c.store.inside.cells c.store.inside.count c.args.to (omega arith))

pub returns : goal.returns
returns c =
    rw (← c.store.view_is)
    (held_within c.store.inside.cells c.store.inside.count c.args.to (record { kept = false; site = 0; linked = false; word = 0 }) (omega (arith, c.if-to-eq0.false)) (omega arith) (omega (arith, c.store.invariant.0, c.store.invariant.1)))
