use Rattle.std.proofs.Common.{◌≡◌, ◌∙◌, ap, arith, below_more, sym, pos, w32}
use Rattle.std.proofs.lemmas.Int.{to_z-of_z, to_z_pos}
use Rattle.std.proofs.lemmas.Option.{get_or_from_slice_get}
use Rattle.cb_heap.specs.Reading.{serial_of}
use Rattle.cb_natives.specs.Given.{units_in}
use Rattle.cb_natives.proofs.UnitLaws.{unit_found, unit_missing}
use Rattle.cb_natives.proofs.scanning.find_unit.Goals as goal
use mir.Val.{of_z, to_z}

pub returns-then-from-wanted : goal.returns-then-from-wanted
returns-then-from-wanted g c =
    let few = c.count-place-end.ensures.few in
    let count = c.count-place-end.ensures.count in
    let same = to_z-of_z w32 c.args.wanted c.ranges.wanted in
    let read = ap pos (get_or_from_slice_get (units_in (g.S.Store.storage c.args.store.now).kept (serial_of (g.S.Store.storage c.args.store.now).index c.args.array)) c.loop-place.place c.unit.result 0 c.unit.ensures) in
    let is : pos c.unit.result ≡ c.args.wanted = sym c.from.ensures ∙ sym (to_z-of_z w32 c.from.result (record { sfits = c.from.type_inv })) ∙ ap (to_z w32) c.if-from-wanted.true ∙ same in
    to_z_pos w32 c.loop-place.place (omega (arith, few))
    ∙ sym (unit_found (units_in (g.S.Store.storage c.args.store.now).kept (serial_of (g.S.Store.storage c.args.store.now).index c.args.array)) c.args.wanted c.loop-place.place (omega (arith, count)) (λ k low at. c.loop-place.invariant k low (at ∙ sym same)) (read ∙ is))

pub loop-place-preserved : goal.loop-place-preserved
loop-place-preserved g c =
    let read = ap pos (get_or_from_slice_get (units_in (g.S.Store.storage c.args.store.now).kept (serial_of (g.S.Store.storage c.args.store.now).index c.args.array)) c.loop-place.place c.unit.result 0 c.unit.ensures) in
    let same = to_z-of_z w32 c.args.wanted c.ranges.wanted in
    below_more _ _ c.loop-place.invariant (λ at. c.if-from-wanted.false (ap (of_z w32) (c.from.ensures ∙ sym read ∙ at ∙ same)))

pub returns : goal.returns
returns g c =
    let count = c.count-place-end.ensures.count in
    let same = to_z-of_z w32 c.args.wanted c.ranges.wanted in
    sym (unit_missing (units_in (g.S.Store.storage c.args.store.now).kept (serial_of (g.S.Store.storage c.args.store.now).index c.args.array)) c.args.wanted (λ k low at. c.loop-place.invariant k (omega (arith, count, low)) (at ∙ sym same)))
