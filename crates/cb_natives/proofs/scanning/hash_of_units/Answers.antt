use Rattle.std.proofs.Common.{◌∙◌, ap, arith, refl, sym, pos, ◌+ℤ◌, ◌*ℤ◌, w32}
use Rattle.std.proofs.lemmas.Int.{int_wrap_fits, to_z-of_z}
use Rattle.std.proofs.lemmas.List.{drop_all}
use Rattle.std.specs.Int.{int_wrap}
use Rattle.cb_heap.specs.Reading.{serial_of}
use Rattle.cb_natives.specs.Given.{units_in}
use Rattle.cb_natives.proofs.UnitLaws.{hash_from}
use Rattle.cb_natives.proofs.scanning.hash_of_units.Goals as goal

pub loop-place-init : goal.loop-place-init
loop-place-init g c = (pos 0, sym (int_wrap_fits w32 (pos 0) (record { sfits = omega arith })), refl)

pub loop-place-preserved : goal.loop-place-preserved
loop-place-preserved g c =
    let before = c.loop-place.invariant.0 in (
      before *ℤ pos 31 +ℤ pos c.unit_at.result,
      to_z-of_z w32 c.next_hash-sum.result (record { sfits = c.next_hash-sum.type_inv }) ∙ c.next_hash-sum.ensures before c.loop-place.invariant.1,
      c.loop-place.invariant.2 ∙ ap (hash_from before) c.unit_at.ensures,
    )

pub returns : goal.returns
returns g c =
    let before = c.loop-place.invariant.0 in
    let all = drop_all c.loop-place.place (units_in (g.S.Store.storage c.args.store.now).kept (serial_of (g.S.Store.storage c.args.store.now).index c.args.array)) (omega (arith, c.count-place-end.ensures.count)) in
    c.loop-place.invariant.1 ∙ ap (int_wrap w32) (sym (c.loop-place.invariant.2 ∙ ap (hash_from before) all))
