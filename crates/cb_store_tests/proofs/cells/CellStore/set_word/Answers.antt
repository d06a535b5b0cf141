use Rattle.std.proofs.Common.{arith, sym, subst, false, is_some, IsTrue}
use Rattle.cb_heap.specs.Kept.{content_at, is_number, is_reference}
use Rattle.cb_store_tests.proofs.CellLaws.{cell_at, number_put, reference_put, there_kept}
use Rattle.cb_store_tests.proofs.cells.CellStore.set_word.Goals as goal

pub offset_bounds-cells-at : goal.offset_bounds-cells-at
offset_bounds-cells-at c =
    let found = cell_at c.self.inside.cells c.self.inside.count c.args.at (record { kept = false; site = 0; linked = false; word = 0 })
    (there_kept _ c.args.at c.args.i (subst (λ held. IsTrue (is_some (content_at held.objects c.args.at c.args.i))) (sym c.self.view_is) c.requires)) in
    omega (arith, found.within, c.self.invariant.1)

pub bounds-cells-at : goal.bounds-cells-at
bounds-cells-at c =
    let found = cell_at c.self.inside.cells c.self.inside.count c.args.at (record { kept = false; site = 0; linked = false; word = 0 })
    (there_kept _ c.args.at c.args.i (subst (λ held. IsTrue (is_some (content_at held.objects c.args.at c.args.i))) (sym c.self.view_is) c.requires)) in
    omega (arith, found.within, c.self.invariant.1)

pub returns-clause-number : goal.returns-clause-number
returns-clause-number c is =
    rw (← c.self.view_is)
    (number_put c.self.inside.cells c.self.inside.count c.args.at c.args.i c.args.word (record { kept = false; site = 0; linked = false; word = 0 })
    (subst (λ held. IsTrue (is_some (content_at held.objects c.args.at c.args.i))) (sym c.self.view_is) c.requires)
    (subst (λ held. IsTrue (is_number (content_at held.objects c.args.at c.args.i))) (sym c.self.view_is) is))

pub returns-clause-reference : goal.returns-clause-reference
returns-clause-reference c is =
    rw (← c.self.view_is)
    (reference_put c.self.inside.cells c.self.inside.count c.args.at c.args.i c.args.word (record { kept = false; site = 0; linked = false; word = 0 })
    (subst (λ held. IsTrue (is_some (content_at held.objects c.args.at c.args.i))) (sym c.self.view_is) c.requires)
    (subst (λ held. IsTrue (is_reference (content_at held.objects c.args.at c.args.i))) (sym c.self.view_is) is))
