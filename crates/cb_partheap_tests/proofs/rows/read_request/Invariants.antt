use Rattle.std.proofs.Common.{nat_lt, IsTrue}
use Rattle.std.specs.List.{AllByRecursion}
use Rattle.cb_partheap_tests.proofs.rows.read_request.Given as goal

abbrev pub invariant-loop : goal.invariant-loop
invariant-loop l = AllByRecursion (λ want. IsTrue (nat_lt want.site l.sites)) l.request
