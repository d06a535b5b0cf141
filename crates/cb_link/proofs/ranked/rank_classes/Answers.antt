use Rattle.std.proofs.Common.{◌∙◌, ap}
use Rattle.cb_link.specs.InnerRanks.{rank}
use Rattle.cb_link.proofs.PlacesLaws.{mapped_more}
use Rattle.cb_link.proofs.ranked.rank_classes.Goals as goal

pub loop-class-preserved : goal.loop-class-preserved
loop-class-preserved c = (
  c.loop-class.invariant.0,
  mapped_more (rank c.args.names.now c.in_ok-packages.packages) c.args.classes.now c.loop-class.class-index _ c.loop-class.ranked c.push.new.self _ c.loop-class-test.true c.loop-class.invariant.1
      (c.in_ok-rank.ensures ∙ ap (rank c.args.names.now c.in_ok-packages.packages) c.class-item.is) c.in_ok-push.ensures.ok,
)
