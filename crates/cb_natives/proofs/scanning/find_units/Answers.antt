use Rattle.std.proofs.Common.{◌∙◌, ◌+◌, arith, sym, drop, get_or, w32}
use Rattle.std.proofs.lemmas.Int.{to_z_pos}
use Rattle.std.proofs.lemmas.List.{drop_more}
use Rattle.cb_heap.specs.Reading.{serial_of}
use Rattle.cb_natives.specs.Given.{units_in}
use Rattle.cb_natives.proofs.UnitLaws.{found_further, found_here}
use Rattle.cb_natives.proofs.scanning.find_units.Goals as goal

pub returns-then-begins_at : goal.returns-then-begins_at
returns-then-begins_at g c =
    let few = c.count-units.ensures.few in
    to_z_pos w32 c.loop-place.place (omega (arith, few))
    ∙ sym (c.loop-place.invariant ∙ found_here c.loop-place.place (drop c.loop-place.place (units_in (g.S.Store.storage c.args.store.now).kept (serial_of (g.S.Store.storage c.args.store.now).index c.args.array))) (units_in (g.S.Store.storage c.args.store.now).kept (serial_of (g.S.Store.storage c.args.store.now).index c.args.part)) (sym c.begins_at.ensures ∙ c.if-begins_at.true))

pub loop-place-preserved : goal.loop-place-preserved
loop-place-preserved g c =
    let count = c.count-units.ensures.count in
    c.loop-place.invariant
    ∙ found_further c.loop-place.place (drop c.loop-place.place (units_in (g.S.Store.storage c.args.store.now).kept (serial_of (g.S.Store.storage c.args.store.now).index c.args.array))) (units_in (g.S.Store.storage c.args.store.now).kept (serial_of (g.S.Store.storage c.args.store.now).index c.args.part)) (drop (c.loop-place.place + 1) (units_in (g.S.Store.storage c.args.store.now).kept (serial_of (g.S.Store.storage c.args.store.now).index c.args.array))) (get_or (units_in (g.S.Store.storage c.args.store.now).kept (serial_of (g.S.Store.storage c.args.store.now).index c.args.array)) c.loop-place.place 0)
    (drop_more (units_in (g.S.Store.storage c.args.store.now).kept (serial_of (g.S.Store.storage c.args.store.now).index c.args.array)) c.loop-place.place 0 (omega (arith, count))) (sym c.begins_at.ensures ∙ c.if-begins_at.false)
