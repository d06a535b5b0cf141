use Rattle.std.proofs.Common.{◌∙◌, ap₂, ◌++◌, map}
use Rattle.cb_link.specs.InnerRanks.{methods_of_class, rank_method}
use Rattle.cb_link.proofs.Ranks.{numbered_grows}
use Rattle.cb_link.proofs.ranked.rank_methods.Goals as goal

pub loop-index-preserved : goal.loop-index-preserved
loop-index-preserved c =
    numbered_grows (methods_of_class c.args.texts.now) c.args.classes.now c.loop-index.index c.index-classes-index.result c.loop-index.ranked c.push_methods.new.ranked c.loop-index-test.true c.index-classes-index.is
    c.loop-index.invariant
    (c.in_ok-push_methods.ensures ∙ ap₂ (λ number methods. c.loop-index.ranked ++ map (rank_method c.args.texts.now number c.index-classes-index.result.pool) methods) c.in_ok-number_of.ensures.number c.as_slice.ensures)
