use Rattle.std.proofs.Common.{◌∙◌, true, false, replicate, sym, arith}
use Rattle.std.proofs.lemmas.List.{ext_get_or, get_or-replicate, length-replicate}
use Rattle.cb_collector.proofs.making.all_parts.Goals as goal

pub returns : goal.returns
returns c =
    ext_get_or false c.loop-part.set (replicate c.args.parts true) (c.loop-part.invariant.0 ∙ sym (length-replicate c.args.parts true))
    (λ k below. c.loop-part.invariant.1 k (omega (arith, below, c.loop-part.invariant.0, c.loop-part-test.false)) ∙ sym (get_or-replicate c.args.parts k true false (omega (arith, below, c.loop-part.invariant.0))))
