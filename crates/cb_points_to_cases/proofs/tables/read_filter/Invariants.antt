use Rattle.std.proofs.Common.{◌≡◌, length}
use Rattle.cb_points_to_cases.proofs.tables.read_filter.Given as goal

abbrev pub invariant-loop-site : goal.invariant-loop-site
invariant-loop-site l = length l.marks ≡ l.site
