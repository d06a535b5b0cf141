use Rattle.std.proofs.Common.{◌-◌}
use Rattle.cb_collection_cases.proofs.walked.walk_part.Given as goal

abbrev pub decreases-loop-start : goal.decreases-loop-start
decreases-loop-start l = l.used - l.start
