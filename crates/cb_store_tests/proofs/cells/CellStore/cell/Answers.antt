use Rattle.std.proofs.Common.{arith, subst, sym, false, IsTrue}
use Rattle.cb_heap.specs.Kept.{is_kept}
use Rattle.cb_store_tests.proofs.CellLaws.{cell_at}
use Rattle.cb_store_tests.proofs.cells.CellStore.cell.Goals as goal

pub offset_bounds-cells-at : goal.offset_bounds-cells-at
offset_bounds-cells-at c =
    let found = cell_at c.self.inside.cells c.self.inside.count c.args.at (record { kept = false; site = 0; linked = false; word = 0 })
    (subst (λ held. IsTrue (is_kept held.objects c.args.at)) (sym c.self.view_is) c.requires) in
    omega (arith, found.within, c.self.invariant.1)

pub bounds-cells-at : goal.bounds-cells-at
bounds-cells-at c =
    let found = cell_at c.self.inside.cells c.self.inside.count c.args.at (record { kept = false; site = 0; linked = false; word = 0 })
    (subst (λ held. IsTrue (is_kept held.objects c.args.at)) (sym c.self.view_is) c.requires) in
    omega (arith, found.within, c.self.invariant.1)

pub returns : goal.returns
returns c =
    let found = cell_at c.self.inside.cells c.self.inside.count c.args.at (record { kept = false; site = 0; linked = false; word = 0 })
    (subst (λ held. IsTrue (is_kept held.objects c.args.at)) (sym c.self.view_is) c.requires) in
    rw (← c.self.view_is) found.object
