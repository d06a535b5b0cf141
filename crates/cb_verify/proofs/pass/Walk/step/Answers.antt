use Rattle.cb_verify.proofs.Walks.{stepped_is}
use Rattle.cb_verify.proofs.pass.Walk.step.Goals as goal

pub returns : goal.returns
returns c =
    stepped_is c.args.method.now c.args.frames.now c.args.self c.args.placed.now c.args.next c.in_ok-before.before c.in_ok-after.after c.onwards.result
    c.fits_with-fits.result c.add.new.list c.failing_at.result c.lesser.result c.in_ok-before.ensures c.in_ok-after.ensures c.fits_with-fits.ensures
    c.in_ok-add.ensures c.onwards.ensures c.failing_at.ensures c.lesser.ensures
