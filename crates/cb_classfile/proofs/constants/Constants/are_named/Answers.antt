use Rattle.std.proofs.Common.{refl}
use Rattle.std.proofs.lemmas.Bool.{false≢true}
use Rattle.cb_classfile.proofs.Indices.{all_at_index, all_more}
use Rattle.cb_classfile.proofs.constants.Constants.are_named.Goals as goal

pub returns-then-not-is_named_at : goal.returns-then-not-is_named_at
returns-then-not-is_named_at c = (λ is. absurd (false≢true is), λ all. c.if-not-is_named_at.ensures.1 (all_at_index _ c.args.self.now c.loop-index.index all))

pub loop-index-preserved : goal.loop-index-preserved
loop-index-preserved c =
    all_more _ c.args.self.now c.loop-index.index (c.if-not-is_named_at.ensures.0 refl) c.loop-index.invariant
