use Rattle.std.proofs.Common.{◌∷◌, [], ◌+◌, drop, Some, None, if◌then◌else◌, subst, ◌≡◌}
use Rattle.cb_verify.specs.Calls.{popped}
use Rattle.cb_verify.specs.Within.{Within}
use Rattle.cb_verify.proofs.Prefixes.{popped_one}
use Rattle.cb_verify.proofs.calls.has_value.Goals as goal

pub returns-then-place-depth-clause-taken : goal.returns-then-place-depth-clause-taken
returns-then-place-depth-clause-taken c =
    subst (λ (method : Within). popped method.program (c.args.wanted ∷ []) (drop c.args.place c.args.frame.now.stack) ≡ (if c.goes_to.result then Some (drop (c.args.place + 1) c.args.frame.now.stack) else None))
    c.method.view_is
    (popped_one c.method.inside.program.now c.args.wanted c.top.result c.args.frame.now.stack c.args.place c.goes_to.result c.top.ensures c.goes_to.ensures)
