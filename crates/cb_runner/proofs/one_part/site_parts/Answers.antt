use Rattle.std.proofs.Common.{◌∙◌}
use Rattle.cb_runner.proofs.CopiedLists.{copied_more}
use Rattle.cb_runner.proofs.one_part.site_parts.Goals as goal

pub loop-site-preserved : goal.loop-site-preserved
loop-site-preserved c =
    c.in_ok-push.ensures.ok ∙ copied_more c.args.graph.now.part_of c.loop-site.parts c.loop-site.site c.part_of.result c.loop-site.invariant c.part_of.ensures
