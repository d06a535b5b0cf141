use Rattle.std.proofs.Common.{◌∙◌, ap₂, ◌++◌, map}
use Rattle.cb_link.specs.InnerRanks.{fields_of_class, rank_field}
use Rattle.cb_link.proofs.Ranks.{numbered_grows}
use Rattle.cb_link.proofs.ranked.rank_fields.Goals as goal

pub loop-index-preserved : goal.loop-index-preserved
loop-index-preserved c =
    numbered_grows (fields_of_class c.args.texts.now) c.args.classes.now c.loop-index.index c.index-classes-index.result c.loop-index.ranked c.push_fields.new.ranked c.loop-index-test.true c.index-classes-index.is
    c.loop-index.invariant
    (c.in_ok-push_fields.ensures ∙ ap₂ (λ number fields. c.loop-index.ranked ++ map (rank_field c.args.texts.now number c.index-classes-index.result.pool) fields) c.in_ok-number_of.ensures.number c.as_slice.ensures)
