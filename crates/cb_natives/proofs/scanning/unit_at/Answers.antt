use Rattle.cb_heap.specs.Reading.{serial_of}
use Rattle.cb_natives.specs.Given.{units_in}
use Rattle.cb_natives.proofs.UnitLaws.{rest_of}
use Rattle.cb_natives.proofs.scanning.unit_at.Goals as goal

pub returns : goal.returns
returns g c = rest_of (units_in (g.S.Store.storage c.args.store.now).kept (serial_of (g.S.Store.storage c.args.store.now).index c.args.array)) c.args.place c.unit.result c.unit.ensures
