use Rattle.std.proofs.Common.{◌∙◌, ◌≤◌, ◌<◌, ◌++◌, ◌∷◌, [], IsTrue, Some, ap, arith, length, map, pos, pred, refl, sym, subst}
use Rattle.std.specs.Int.{int_wrap, w64}
use Rattle.cb_plain.specs.State.{Number, Reference}
use Rattle.cb_heap.specs.Kept.{is_held, is_number, is_reference}
use Rattle.cb_heap.specs.Reading.{serial_of}
use Rattle.cb_mapheap.proofs.Laws.{serial_is}
use Rattle.cb_store_tests.specs.Cells.{cells}
use Rattle.cb_store_tests.proofs.MapHeaps.{blank_cell, cell_placed, cells_count, cells_next, held_within, may_within, number_put, one_longer, reads_last, serial_placed, writes_last}
use Rattle.cb_store_tests.proofs.map_heap.place_cell.Goals as goal

pub place-cell-requires-clause-serials : goal.place-cell-requires-clause-serials
place-cell-requires-clause-serials c = omega (arith, ap length c.requires.objects, cells_count c.args.number, c.requires.few)

pub put-requires : goal.put-requires
put-requires c =
    let here = serial_placed (map Some c.args.heap.now.objects) (serial_of pred c.place-cell.result) c.args.number c.requires.objects c.place-cell.ensures.serial in
    let placed = cell_placed c.args.heap.now.shapes (map Some c.args.heap.now.objects) (map Some c.place-cell.new.self.objects) c.args.number c.requires.shapes c.requires.objects c.place-cell.ensures.kept in
    reads_last is_number (map Some c.place-cell.new.self.objects) (cells c.args.number) blank_cell (serial_of pred c.place-cell.result) 1 placed here refl

pub put_ref-requires-clause-there : goal.put_ref-requires-clause-there
put_ref-requires-clause-there c =
    let here = serial_placed (map Some c.args.heap.now.objects) (serial_of pred c.place-cell.result) c.args.number c.requires.objects c.place-cell.ensures.serial in
    let placed = cell_placed c.args.heap.now.shapes (map Some c.args.heap.now.objects) (map Some c.place-cell.new.self.objects) c.args.number c.requires.shapes c.requires.objects c.place-cell.ensures.kept in
    let put = writes_last (map Some c.place-cell.new.self.objects) (map Some c.put.new.self.objects) (cells c.args.number) blank_cell (serial_of pred c.place-cell.result) 1 (Number (int_wrap w64 (pos c.args.number))) c.put.ensures.kept placed here in
    reads_last is_reference (map Some c.put.new.self.objects) (cells c.args.number) (number_put c.args.number) (serial_of pred c.place-cell.result) 0 put here refl

pub put_ref-requires-clause-held : goal.put_ref-requires-clause-held
put_ref-requires-clause-held c =
    let here = serial_placed (map Some c.args.heap.now.objects) (serial_of pred c.place-cell.result) c.args.number c.requires.objects c.place-cell.ensures.serial in
    let placed = cell_placed c.args.heap.now.shapes (map Some c.args.heap.now.objects) (map Some c.place-cell.new.self.objects) c.args.number c.requires.shapes c.requires.objects c.place-cell.ensures.kept in
    let put = writes_last (map Some c.place-cell.new.self.objects) (map Some c.put.new.self.objects) (cells c.args.number) blank_cell (serial_of pred c.place-cell.result) 1 (Number (int_wrap w64 (pos c.args.number))) c.put.ensures.kept placed here in
    let within : c.args.number ≤ length c.put.new.self.objects = omega (arith, one_longer c.put.new.self.objects (cells c.args.number) (number_put c.args.number) put, cells_count c.args.number) in
    subst (λ serial. IsTrue (is_held (map Some c.put.new.self.objects) serial)) (sym (serial_is c.args.number)) (held_within c.put.new.self.objects c.args.number within)

pub put_ref-requires-clause-allowed : goal.put_ref-requires-clause-allowed
put_ref-requires-clause-allowed c =
    let here = serial_placed (map Some c.args.heap.now.objects) (serial_of pred c.place-cell.result) c.args.number c.requires.objects c.place-cell.ensures.serial in
    let placed = cell_placed c.args.heap.now.shapes (map Some c.args.heap.now.objects) (map Some c.place-cell.new.self.objects) c.args.number c.requires.shapes c.requires.objects c.place-cell.ensures.kept in
    let put = writes_last (map Some c.place-cell.new.self.objects) (map Some c.put.new.self.objects) (cells c.args.number) blank_cell (serial_of pred c.place-cell.result) 1 (Number (int_wrap w64 (pos c.args.number))) c.put.ensures.kept placed here in
    let longer = one_longer c.put.new.self.objects (cells c.args.number) (number_put c.args.number) put in
    let low : 0 < serial_of pred c.place-cell.result = omega (arith, here) in
    let high : serial_of pred c.place-cell.result ≤ length c.put.new.self.objects = omega (arith, here, longer) in
    let within : serial_of pred c.args.number ≤ length c.put.new.self.objects = omega (arith, serial_is c.args.number, longer, cells_count c.args.number) in
    may_within c.put.new.self.objects (serial_of pred c.place-cell.result) (serial_of pred c.args.number) low high within

pub returns-clause-objects : goal.returns-clause-objects
returns-clause-objects c =
    let here = serial_placed (map Some c.args.heap.now.objects) (serial_of pred c.place-cell.result) c.args.number c.requires.objects c.place-cell.ensures.serial in
    let placed = cell_placed c.args.heap.now.shapes (map Some c.args.heap.now.objects) (map Some c.place-cell.new.self.objects) c.args.number c.requires.shapes c.requires.objects c.place-cell.ensures.kept in
    let put = writes_last (map Some c.place-cell.new.self.objects) (map Some c.put.new.self.objects) (cells c.args.number) blank_cell (serial_of pred c.place-cell.result) 1 (Number (int_wrap w64 (pos c.args.number))) c.put.ensures.kept placed here in
    writes_last (map Some c.put.new.self.objects) (map Some c.put_ref.new.self.objects) (cells c.args.number) (number_put c.args.number) (serial_of pred c.place-cell.result) 0 (Reference (serial_of pred c.args.number)) c.put_ref.ensures.kept put here
    ∙ ap (λ serial. cells c.args.number ++ Some (record { site = 7; kind = 0; contents = Reference serial ∷ Number (int_wrap w64 (pos c.args.number)) ∷ [] }) ∷ []) (serial_is c.args.number)
    ∙ sym (cells_next c.args.number)
