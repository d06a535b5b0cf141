use Rattle.std.proofs.Common.{◌<◌, ℕ, get_or}
use Rattle.cb_points_to.specs.Looking.{IsSaidAt}
use Rattle.cb_points_to.specs.Webs.{Keeps}
use Rattle.cb_points_to.proofs.look.expand_sources.Given as goal

abbrev pub invariant-loop-own : goal.invariant-loop-own
invariant-loop-own l =
    Keeps l.constraints l.looked l.initial.web l.web × ((k : ℕ) → k < l.own-index → IsSaidAt l.constraints l.web l.inclusion (get_or l.own-items k 0) l.other)
