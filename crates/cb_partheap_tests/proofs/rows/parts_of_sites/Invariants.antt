use Rattle.std.proofs.Common.{◌≡◌, ◌<◌, length}
use Rattle.std.specs.List.{All}
use Rattle.cb_partheap_tests.proofs.rows.parts_of_sites.Given as goal

abbrev pub invariant-loop-site : goal.invariant-loop-site
invariant-loop-site l = (length l.parts ≡ l.site) × All (λ part. part < l.dag.parts) l.parts
