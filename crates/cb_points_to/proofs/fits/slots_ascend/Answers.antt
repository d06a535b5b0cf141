use Rattle.std.proofs.Common.{arith}
use Rattle.cb_points_to.proofs.Located.{ascend_all, not_above}
use Rattle.cb_points_to.proofs.fits.slots_ascend.Goals as goal

pub returns-then-slots-at : goal.returns-then-slots-at
returns-then-slots-at c = (λ t. absurd (cc), λ ascend. absurd (not_above (λ slot. slot.site) c.args.slots.now c.loop-at.at (record { site = 0; node = 0 }) (omega arith) c.loop-at-test.true c.if-slots-at.true ascend))

pub returns : goal.returns
returns c = (λ t. ascend_all (λ slot. slot.site) c.args.slots.now c.loop-at.at c.loop-at.invariant (omega arith), λ ascend. cc)
