use Rattle.std.proofs.Common.{◌≡◌, ◌<◌, ℕ, true, get_or}
use Rattle.cb_points_to.specs.Closed.{has}
use Rattle.cb_points_to.specs.Says.{Had, lets}
use Rattle.cb_points_to.specs.Webs.{Keeps}
use Rattle.cb_points_to.proofs.web.Web.add_edge.Given as goal

abbrev pub invariant-loop-site : goal.invariant-loop-site
invariant-loop-site l =
    Keeps l.constraints l.looked l.initial.self l.self
    × ((k : ℕ) → k < l.site-index → lets l.constraints l.edge.filter (get_or l.site-items k 0) ≡ true → Had (has l.self.rows) l.edge.to (get_or l.site-items k 0))
