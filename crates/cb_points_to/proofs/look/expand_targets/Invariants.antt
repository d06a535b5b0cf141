use Rattle.std.proofs.Common.{◌<◌, ℕ, get_or}
use Rattle.cb_points_to.specs.Looking.{IsSaidAt}
use Rattle.cb_points_to.specs.Webs.{Keeps}
use Rattle.cb_points_to.proofs.look.expand_targets.Given as goal

abbrev pub invariant-loop-other : goal.invariant-loop-other
invariant-loop-other l =
    Keeps l.constraints l.looked l.initial.web l.web × ((k : ℕ) → k < l.other-index → IsSaidAt l.constraints l.web l.inclusion l.own (get_or l.other-items k 0))
