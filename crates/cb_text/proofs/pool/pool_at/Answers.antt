use Rattle.std.proofs.Common.{rules, sym, ◌∙◌}
use Rattle.std.proofs.lemmas.Bool.{false≢true}
use Rattle.cb_text.proofs.Faults.{handed}
use Rattle.cb_text.proofs.OnePool.{pool_constants, pool_found}
use Rattle.cb_text.proofs.pool.pool_at.Goals as goal

pub returns-in_err-constants : goal.returns-in_err-constants
returns-in_err-constants c = handed _ _ _ _ c.from_residual.ensures (λ constants end begins.
    let stand = pool_constants (search rules) c.in-Some.ensures (search rules) begins in
    c.in_err-constants.ensures constants stand.0 stand.1)

pub returns-then-not-are_indexed : goal.returns-then-not-are_indexed
returns-then-not-are_indexed c = λ constants end begins.
    let stand = pool_constants (search rules) c.in-Some.ensures (search rules) begins in
    let same = c.in_ok-constants.ensures.only constants stand.0 stand.1 in
    absurd (false≢true (sym c.if-not-are_indexed.true ∙ c.are_indexed.ensures.1 (rw (c.deref.ensures.value, same.0) stand.2)))

pub returns : goal.returns
returns c =
    let indexed = rw c.deref.ensures.value at (c.are_indexed.ensures.0 c.if-not-are_indexed.false) in
    pool_found (search rules) c.in-Some.ensures (search rules) c.in_ok-constants.ensures.found indexed
