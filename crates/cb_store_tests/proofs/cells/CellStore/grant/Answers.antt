use Rattle.std.proofs.Common.{arith, subst, true}
use Rattle.cb_heap.specs.Grants.{IsBounded}
use Rattle.cb_store_tests.proofs.CellLaws.{sole, sole_bounded}
use Rattle.cb_store_tests.proofs.cells.CellStore.grant.Goals as goal

pub returns-clause-granted : goal.returns-clause-granted
returns-clause-granted c is = sole c.args.request.now c.at-want.result (omega arith) c.at-want.ensures

pub returns-clause-bounded : goal.returns-clause-bounded
returns-clause-bounded c is =
    subst (IsBounded true _) (sole c.args.request.now c.at-want.result (omega arith) c.at-want.ensures) (sole_bounded c.at-want.result _ (omega arith))
