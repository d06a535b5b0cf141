use Rattle.std.proofs.Common.{◌≤◌, ◌+◌, Some, ap, arith, length, map, pred, refl}
use Rattle.cb_heap.specs.Reading.{serial_of}
use Rattle.cb_store_tests.proofs.MapHeaps.{array_holds, array_may, array_placed, array_reads, array_serial, array_writes, cells_count}
use Rattle.cb_store_tests.proofs.map_heap.place_array.Goals as goal

pub place-array-requires-clause-serials : goal.place-array-requires-clause-serials
place-array-requires-clause-serials c = omega (arith, ap length c.requires.objects, cells_count c.args.count)

pub loop-i-init : goal.loop-i-init
loop-i-init c =
    array_placed c.args.heap.now.shapes (map Some c.args.heap.now.objects) (map Some c.place-array.new.self.objects) c.args.count c.requires.shapes c.requires.objects c.place-array.ensures.kept

pub put_ref-requires-clause-there : goal.put_ref-requires-clause-there
put_ref-requires-clause-there c =
    let place = array_serial (serial_of pred c.place-array.result) c.place-array.result c.args.count (map Some c.args.heap.now.objects) c.requires.objects c.place-array.ensures.serial refl in
    array_reads c.args.count c.place-array.result c.loop-i.i (map Some c.loop-i.heap.objects) c.loop-i.invariant place c.loop-i-test.true

pub put_ref-requires-clause-held : goal.put_ref-requires-clause-held
put_ref-requires-clause-held c =
    let within : c.from.result + 1 ≤ c.args.count = omega (arith, c.from.ensures, c.loop-i-test.true) in
    array_holds c.args.count (c.from.result + 1) c.loop-i.heap.objects c.loop-i.invariant within

pub put_ref-requires-clause-allowed : goal.put_ref-requires-clause-allowed
put_ref-requires-clause-allowed c =
    let place = array_serial (serial_of pred c.place-array.result) c.place-array.result c.args.count (map Some c.args.heap.now.objects) c.requires.objects c.place-array.ensures.serial refl in
    let within : c.from.result + 1 ≤ c.args.count = omega (arith, c.from.ensures, c.loop-i-test.true) in
    array_may c.args.count c.place-array.result (c.from.result + 1) c.loop-i.heap.objects c.loop-i.invariant place within

pub loop-i-preserved : goal.loop-i-preserved
loop-i-preserved c =
    let place = array_serial (serial_of pred c.place-array.result) c.place-array.result c.args.count (map Some c.args.heap.now.objects) c.requires.objects c.place-array.ensures.serial refl in
    array_writes c.args.count c.place-array.result c.loop-i.i (serial_of pred (c.from.result + 1)) (map Some c.loop-i.heap.objects) (map Some c.put_ref.new.self.objects) c.loop-i.invariant place c.put_ref.ensures.kept

pub returns-clause-place : goal.returns-clause-place
returns-clause-place c =
    array_serial (serial_of pred c.place-array.result) c.place-array.result c.args.count (map Some c.args.heap.now.objects) c.requires.objects c.place-array.ensures.serial refl
