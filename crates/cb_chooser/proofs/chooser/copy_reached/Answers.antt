use Rattle.std.proofs.Common.{◌∙◌, ap, arith, length}
use Rattle.std.proofs.lemmas.List.{length-set}
use Rattle.cb_chooser.proofs.Chosen.{copied_more}
use Rattle.cb_chooser.proofs.chooser.copy_reached.Goals as goal

pub loop-part-preserved : goal.loop-part-preserved
loop-part-preserved c = (
  ap length c.put.ensures ∙ length-set c.loop-part.set c.loop-part.part c.reached-reached.result ∙ c.loop-part.invariant.0,
  copied_more c.args.network.now.reached c.loop-part.set c.put.new.self c.loop-part.part c.reached-reached.result
      (omega (arith, c.loop-part-test.true, c.parts-part-end.ensures, c.requires.each)) c.loop-part.invariant.0 c.loop-part.invariant.1 c.reached-reached.ensures c.put.ensures,
)
