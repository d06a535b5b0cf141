use Rattle.std.proofs.Common.{◌≡◌, ◌-◌, ◌<◌, ap, arith, length, get_or}
use Rattle.std.proofs.lemmas.List.{get_or_default}
use Rattle.cb_points_to.specs.declared.tables.Callee.{Callee}
use Rattle.cb_points_to.proofs.Located.{ascend_all, not_above}
use Rattle.cb_points_to.proofs.fits.callees_ascend.Goals as goal

pub returns-then-callees-at : goal.returns-then-callees-at
returns-then-callees-at c =
    let callees = c.args.callees.now in
    let here = c.index-callees-at.result in
    let low : c.loop-at.at - 1 < length callees = omega arith in
    let same : (get_or callees (c.loop-at.at - 1) c.index-callees-at-in-loop-at.result).site ≡ (get_or callees (c.loop-at.at - 1) here).site =
    ap (λ (callee : Callee). callee.site) (get_or_default callees (c.loop-at.at - 1) c.index-callees-at-in-loop-at.result here low) in
    (λ t. absurd (cc), λ ascend. absurd (not_above (λ callee. callee.site) callees c.loop-at.at here (omega arith) c.loop-at-test.true (omega (arith, same, c.if-callees-at.true)) ascend))

pub returns : goal.returns
returns c = (λ t. ascend_all (λ callee. callee.site) c.args.callees.now c.loop-at.at c.loop-at.invariant (omega arith), λ ascend. cc)
