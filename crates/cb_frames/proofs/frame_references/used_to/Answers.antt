use Rattle.std.proofs.Common.{◌≡◌, ◌∙◌, ◌≤◌, ap, arith, get_or, subst, sym}
use Rattle.std.proofs.lemmas.List.{get_or_default}
use Rattle.cb_frames.proofs.Searched.{found, found_here}
use Rattle.cb_frames.proofs.frame_references.used_to.Goals as goal

pub returns-then-top-slot : goal.returns-then-top-slot
returns-then-top-slot c = sym (found_here c.args.top.now _ c.args.slot c.requires.stacked c.requires.there c.if-top-slot.true)

pub returns : goal.returns
returns c =
    let same : c.loop-low.high ≡ c.loop-low.low = omega arith in
    ap (λ standing. standing.next) (get_or_default c.args.below.now c.loop-low.low _ c.args.top.now (omega arith))
    ∙ sym (found c.args.top.now c.args.below.now c.args.free c.loop-low.low c.args.slot c.args.top.now c.requires.stacked c.loop-low.invariant.free (omega arith) (omega arith)
    (λ more. subst (λ at. (get_or c.args.below.now at c.args.top.now).base ≤ c.args.slot) same (c.loop-low.invariant.begins (omega arith))) c.loop-low.invariant.above)
