use Rattle.std.proofs.Common.{◌≡◌, take}
use Rattle.cb_runner.proofs.one_part.site_parts.Given as goal

abbrev pub invariant-loop-site : goal.invariant-loop-site
invariant-loop-site l = l.parts ≡ take l.site l.graph.part_of
