use Rattle.std.proofs.Common.{◌≡◌, ◌<◌, ℕ, List, [], None, true, get_or}
use Rattle.cb_points_to.specs.Closed.{has}
use Rattle.cb_points_to.specs.Says.{Had, MustHave, lets}
use Rattle.cb_points_to.specs.Webs.{IsWeb, Keeps}
use Rattle.cb_points_to.proofs.web.Web.follow_all.Given as goal

abbrev pub invariant-loop-at : goal.invariant-loop-at
invariant-loop-at l =
    (l.self.edges ≡ l.initial.self.edges)
    × ((looked : List (List ℕ)) → IsWeb l.constraints looked l.initial.self → MustHave l.constraints l.member.node l.member.site
    → Keeps l.constraints looked l.initial.self l.self
    × ((k : ℕ) → k < l.at → lets l.constraints (get_or (get_or l.initial.self.edges l.member.node []) k (record { to = 0; filter = None })).filter l.member.site ≡ true
    → Had (has l.self.rows) (get_or (get_or l.initial.self.edges l.member.node []) k (record { to = 0; filter = None })).to l.member.site))
