use Rattle.std.proofs.Common.{◌∙◌, ap, sym}
use Rattle.cb_heap.specs.Reading.{serial_of}
use Rattle.cb_natives.specs.Equal.{equal_units}
use Rattle.cb_natives.specs.Given.{units_in}
use Rattle.cb_natives.proofs.string_reading.is_string_of.Goals as goal

pub returns-in-Some : goal.returns-in-Some
returns-in-Some g c =
    let units = (units_in (g.S.Store.storage c.args.store.now).kept (serial_of (g.S.Store.storage c.args.store.now).index c.args.array)) in
    λ machine beside. c.string_at.ensures.text machine beside units ∙ ap (equal_units (g.S.Store.storage c.args.store.now).kept (g.S.Store.storage c.args.store.now).index units) c.in-Some.is ∙ sym c.same_units.ensures

pub returns-in-None : goal.returns-in-None
returns-in-None g c =
    let units = (units_in (g.S.Store.storage c.args.store.now).kept (serial_of (g.S.Store.storage c.args.store.now).index c.args.array)) in
    λ machine beside. c.string_at.ensures.text machine beside units ∙ ap (equal_units (g.S.Store.storage c.args.store.now).kept (g.S.Store.storage c.args.store.now).index units) c.in-None.is
