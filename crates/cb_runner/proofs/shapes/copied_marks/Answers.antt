use Rattle.std.proofs.Common.{◌∙◌, ◌≤◌, arith, length}
use Rattle.cb_runner.proofs.CopiedLists.{copied_all, copied_more}
use Rattle.cb_runner.proofs.shapes.copied_marks.Goals as goal

pub loop-place-init : goal.loop-place-init
loop-place-init c = c.new-copy.ensures

pub loop-place-preserved : goal.loop-place-preserved
loop-place-preserved c =
    c.in_ok-push.ensures.ok ∙ copied_more c.args.marks.now c.loop-place.copy c.loop-place.place c.get.result.now c.loop-place.invariant c.get.ensures

pub returns : goal.returns
returns c = let end : length c.args.marks.now ≤ c.loop-place.place = omega (arith, c.loop-place-test.false) in copied_all c.args.marks.now c.loop-place.copy c.loop-place.place c.loop-place.invariant end
