use Rattle.std.proofs.Common.{arith, ◌≡◌, add-one, false, slice_get, slice_index_or, Some}
use Rattle.cb_store_tests.specs.FourCells.{entry_of}
use Rattle.cb_heap.specs.Closed.{references_in_entry}
use Rattle.cb_store_tests.specs.declared.cell.Cell.{Cell}
use Rattle.cb_heap.specs.Kept.{is_held}
use Rattle.cb_store_tests.proofs.CellLaws.{entry_place, parts_more}
use Rattle.cb_store_tests.proofs.cells.held.holds_words.Goals as goal

pub loop-i-preserved : goal.loop-i-preserved
loop-i-preserved c =
    let cell : Cell = slice_index_or c.store.inside.cells c.loop-i.i (record { kept = false; site = 0; linked = false; word = 0 }) in
    let there : slice_get c.args.store.now.objects c.loop-i.i ≡ Some (entry_of cell) =
    rw (← c.store.view_is) (entry_place c.store.inside.cells c.store.inside.count c.loop-i.i (record { kept = false; site = 0; linked = false; word = 0 }) (omega arith) (omega (arith, c.store.invariant.0, c.store.invariant.1))) in
    rw add-one
    (parts_more (is_held c.args.store.now.objects) references_in_entry c.args.store.now.objects c.loop-i.i (entry_of cell) there c.loop-i.invariant (c.holds_word.ensures c.if-not-holds_word.false))
