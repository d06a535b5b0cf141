use Rattle.std.proofs.Common.{arith}
use Rattle.cb_core.proofs.Placed.{place_below, placed_all, placed_more, placed_start, small_of}
use Rattle.cb_core.proofs.code.places_of.Goals as goal

pub overflow_add-place : goal.overflow_add-place
overflow_add-place c = omega (arith, place_below c.args.rows.now c.loop-row.row-index c.loop-row.places c.loop-row.place c.size_of-place.result c.requires (small_of _ _ c.size_of-place.ensures) c.loop-row.invariant)

pub loop-row-init : goal.loop-row-init
loop-row-init c = placed_start _ c.in_ok-places.ensures

pub loop-row-preserved : goal.loop-row-preserved
loop-row-preserved c = placed_more _ _ _ _ _ _ _ c.loop-row-test.true c.in_ok-push.ensures.ok c.size_of-place.ensures c.loop-row.invariant

pub returns : goal.returns
returns c = placed_all _ _ _ _ c.loop-row-test.false c.loop-row.invariant
