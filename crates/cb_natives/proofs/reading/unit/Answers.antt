use Rattle.std.proofs.Common.{◌∙◌}
use Rattle.cb_heap.specs.Kept.{content_at}
use Rattle.cb_heap.specs.Reading.{serial_of}
use Rattle.cb_natives.proofs.Units.{each_so, unit_number, unit_of, unit_so}
use Rattle.cb_natives.proofs.reading.unit.Goals as goal

pub get-requires : goal.get-requires
get-requires g c =
    let objects = (g.S.Store.storage c.args.store.now).kept in
    let array = serial_of (g.S.Store.storage c.args.store.now).index c.args.array in
    unit_number (content_at objects array c.args.place) (each_so objects array c.args.place c.requires.units c.requires.low)

pub overflow_cast-result : goal.overflow_cast-result
overflow_cast-result g c =
    let objects = (g.S.Store.storage c.args.store.now).kept in
    let array = serial_of (g.S.Store.storage c.args.store.now).index c.args.array in
    record { fits = (unit_so (content_at objects array c.args.place) c.get.result (each_so objects array c.args.place c.requires.units c.requires.low) c.get.type_inv c.get.ensures).0 }

pub returns : goal.returns
returns g c =
    let objects = (g.S.Store.storage c.args.store.now).kept in
    let array = serial_of (g.S.Store.storage c.args.store.now).index c.args.array in
    unit_of objects array c.args.place
    ∙ (unit_so (content_at objects array c.args.place) c.get.result (each_so objects array c.args.place c.requires.units c.requires.low) c.get.type_inv c.get.ensures).1
