use Rattle.std.proofs.Common.{subst, arith, Option, ℕ}
use Rattle.cb_points_to.specs.Looking.{AddsWatch}
use Rattle.cb_points_to.proofs.Solved.{watches_all, watches_more}
use Rattle.cb_points_to.proofs.watch.watch.Goals as goal

pub loop-place-preserved : goal.loop-place-preserved
loop-place-preserved c =
    watches_more c.args.constraints.now c.loop-place.watching c.add_watch.new.watching c.add_watch-in-loop-place.new.watching c.loop-place.place c.inclusion-inclusion.result.now
    c.inclusion-inclusion.ensures c.loop-place.invariant
    (subst (λ (base : Option ℕ). AddsWatch c.loop-place.watching c.add_watch.new.watching base c.loop-place.place) c.first_base.ensures
    (subst (λ place. AddsWatch c.loop-place.watching c.add_watch.new.watching c.first_base.result place) c.in_ok-number.ensures.number c.in_ok-add_watch.ensures))
    (subst (λ (base : Option ℕ). AddsWatch c.add_watch.new.watching c.add_watch-in-loop-place.new.watching base c.loop-place.place) c.second_base.ensures
    (subst (λ place. AddsWatch c.add_watch.new.watching c.add_watch-in-loop-place.new.watching c.second_base.result place) c.in_ok-number.ensures.number c.in_ok-add_watch-2.ensures))

pub returns : goal.returns
returns c = watches_all c.args.constraints.now c.loop-place.watching c.loop-place.place c.loop-place.invariant (omega (arith, c.inclusion_count-place-end.ensures))
