use Rattle.std.proofs.Common.{ap}
use Rattle.cb_classfile.specs.Faults.{pool_fault}
use Rattle.cb_classfile.proofs.Failing.{handed}
use Rattle.cb_classfile.proofs.Fronts.{pool_begins, pool_found}
use Rattle.cb_classfile.proofs.read.pool_at.Goals as goal

pub returns-in_err-pool : goal.returns-in_err-pool
returns-in_err-pool c = handed _ _ _ _ c.from_residual.ensures (λ pool rest begins. ap pool_fault (c.in_err-pool.ensures.exact pool _ (pool_begins _ pool rest begins)))

pub returns : goal.returns
returns c = pool_found c.in_ok-pool.ensures.pool
