use Rattle.std.proofs.Common.{◌≡◌, ◌<◌, ℕ, Some, get_or, slice_get}
use Rattle.cb_points_to.specs.Looking.{IsSaidNew}
use Rattle.cb_points_to.specs.Webs.{Keeps}
use Rattle.cb_points_to.specs.declared.inclusion.Inclusion.{Inclusion}
use Rattle.cb_points_to.proofs.look.look_at_all.Given as goal

abbrev pub invariant-loop-place : goal.invariant-loop-place
invariant-loop-place l =
    Keeps l.constraints l.looked l.initial.web l.web
    × ((k : ℕ) → k < l.place-index → (inclusion : Inclusion) → slice_get l.constraints.inclusions (get_or l.place-items k 0) ≡ Some inclusion
    → IsSaidNew l.constraints l.looked l.web inclusion l.member.node l.member.site)
