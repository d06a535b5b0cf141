use Rattle.std.proofs.Common.{◌≡◌, ◌<◌, ℕ, Some, slice_get}
use Rattle.cb_points_to.specs.Looking.{IsSaidOf}
use Rattle.cb_points_to.specs.Webs.{Keeps}
use Rattle.cb_points_to.specs.declared.inclusion.Inclusion.{Inclusion}
use Rattle.cb_points_to.proofs.solver.start.Given as goal

abbrev pub invariant-loop-place : goal.invariant-loop-place
invariant-loop-place l =
    Keeps l.constraints l.looked l.initial.web l.web
    × ((i : ℕ) → i < l.place → (inclusion : Inclusion) → slice_get l.constraints.inclusions i ≡ Some inclusion → IsSaidOf l.constraints l.looked l.web inclusion)
