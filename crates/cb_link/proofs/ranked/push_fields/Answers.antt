use Rattle.cb_link.specs.InnerRanks.{rank_field}
use Rattle.cb_link.proofs.Ranks.{pushed}
use Rattle.cb_link.proofs.ranked.push_fields.Goals as goal

pub loop-field-preserved : goal.loop-field-preserved
loop-field-preserved c =
    pushed (rank_field c.args.texts.now c.args.number c.args.pool.now) _ _ _ c.args.fields.now c.loop-field.field-index _ _ c.loop-field-test.true c.loop-field.invariant c.rank_field.ensures c.in_ok-push.ensures.ok
