use Rattle.std.proofs.Common.{◌∙◌}
use Rattle.std.proofs.lemmas.Result.{err_from_is_err_and}
use Rattle.cb_text.specs.Pool.{BeginsWithPool}
use Rattle.cb_text.proofs.Faults.{bad_exactly, handed}
use Rattle.cb_text.proofs.OnePool.{one_pool_front}
use Rattle.cb_text.proofs.pool.read_pool.Goals as goal

pub returns-in_err-constants-clause-exact : goal.returns-in_err-constants-clause-exact
returns-in_err-constants-clause-exact c = λ constants end begins. handed _ _ _ _ c.from_residual.ensures (c.in_err-constants.ensures constants end begins)

pub returns-in_err-constants-clause-bad : goal.returns-in_err-constants-clause-bad
returns-in_err-constants-clause-bad c =
    let fault = err_from_is_err_and c.from_residual.result c.from_residual.ensures.1 in
    bad_exactly (BeginsWithPool c.args.bytes.now) fault.0 c.from_residual.result fault.1 (λ constants end begins. fault.2 ∙ c.in_err-constants.ensures constants end begins)

pub returns-clause-exact : goal.returns-clause-exact
returns-clause-exact c = λ constants end. one_pool_front _ _ _ _ _ c.in_ok-constants.ensures.1

pub returns-clause-bad : goal.returns-clause-bad
returns-clause-bad c = (λ bad. absurd cc, λ none. absurd (none.1 _ _ c.in_ok-constants.ensures.1))
