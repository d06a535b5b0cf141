use Rattle.std.proofs.Common.{◌≡◌, ◌∙◌, ap, arith, sym, pos, ◌-ℤ◌, length, w32}
use Rattle.std.proofs.lemmas.Int.{ints}
use Rattle.cb_heap.specs.Reading.{serial_of}
use Rattle.cb_natives.specs.Given.{units_in}
use Rattle.cb_natives.proofs.UnitLaws.{compared_end}
use Rattle.cb_natives.proofs.scanning.compare_units.Goals as goal
use mir.Val.{of_z, to_z}

pub returns : goal.returns
returns g c =
    let units = (units_in (g.S.Store.storage c.args.store.now).kept (serial_of (g.S.Store.storage c.args.store.now).index c.args.one)) in
    let others = (units_in (g.S.Store.storage c.args.store.now).kept (serial_of (g.S.Store.storage c.args.store.now).index c.args.other)) in
    let one = c.count-units.ensures.count in
    let other = c.count-others.ensures.count in
    let end = compared_end c.loop-place.place units others (omega (arith, one, other)) in
    let number : to_z w32 (of_z w32 (to_z w32 c.count-units.result -ℤ to_z w32 c.count-others.result)) ≡ pos c.count-units.result -ℤ pos c.count-others.result = omega (arith, ints) in
    number ∙ ap (λ count. pos count -ℤ pos c.count-others.result) one ∙ ap (λ count. pos (length units) -ℤ pos count) other ∙ sym (c.loop-place.invariant ∙ end)
