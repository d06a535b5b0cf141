use Rattle.std.proofs.Common.{IsTrue, List, nat_lt, subst, sym}
use Rattle.std.specs.List.{AllByRecursion}
use Rattle.cb_plain.specs.declared.want.Want.{Want}
use Rattle.cb_partheap_tests.proofs.Kept.{known_added}
use Rattle.cb_partheap_tests.proofs.rows.read_request.Goals as goal

pub loop-preserved : goal.loop-preserved
loop-preserved c = subst (λ (wants : List Want). AllByRecursion (λ want. IsTrue (nat_lt want.site c.args.sites)) wants) (sym c.add.ensures) (known_added c.args.sites c.loop.request _ c.loop.invariant c.if-site-sites.false)
