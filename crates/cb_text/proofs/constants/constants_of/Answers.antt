use Rattle.std.proofs.Common.{◌≡◌, ◌++◌, length, rules, arith, ap, length-append}
use Rattle.cb_text.specs.Pool.{with_gap}
use Rattle.cb_text.proofs.Faults.{handed}
use Rattle.cb_text.proofs.Pooling.{front_constants, next_stands, one_more}
use Rattle.cb_text.proofs.constants.constants_of.Goals as goal

pub returns-in_err-constant : goal.returns-in_err-constant
returns-in_err-constant c = handed _ _ _ _ c.from_residual-in_err-constant.ensures (λ all after begins.
    let next = next_stands (search rules) c.loop-alloc.invariant.0 begins in
    c.in_err-constant.ensures next.0 next.1 next.2)

pub returns-then-places_of-count : goal.returns-then-places_of-count
returns-then-places_of-count c = λ all after begins.
    let next = next_stands (search rules) c.loop-alloc.invariant.0 begins in
    let same = c.in_ok-constant.ensures.only next.0 next.1 next.2 in
    absurd (omega (arith, next.3, ap (λ c. length (with_gap c)) same.0))

pub loop-alloc-preserved : goal.loop-alloc-preserved
loop-alloc-preserved c =
    let pushed : c.push_with_gap.new.constants.items ≡ c.loop-alloc.constants.items ++ with_gap c.in_ok-constant.constant = c.in_ok-push_with_gap.ensures.ok in
    rw pushed (one_more _ _ c.loop-alloc.invariant.0 c.in_ok-constant.ensures.found, simp length-append (search rules))

pub returns : goal.returns
returns c = front_constants (search rules) c.loop-alloc.invariant.0
