use Rattle.std.proofs.Common.{◌∙◌}
use Rattle.cb_asm.proofs.Runs.{limited_said, some_limits}
use Rattle.cb_asm.proofs.gathering.code.Goals as goal

pub returns-in_ok-limited-in-Some-clause-taken : goal.returns-in_ok-limited-in-Some-clause-taken
returns-in_ok-limited-in-Some-clause-taken c =
    let told = limited_said c.in-Some.limits c.limits_at.new.lines.items c.limited.new.lines.items c.in_ok-limited-in-Some.field-0 c.in_ok-limited-in-Some.ensures in
    (told.0, c.in-Some.ensures ∙ told.1)

pub returns-in_ok-limited-in-Some-clause-only : goal.returns-in_ok-limited-in-Some-clause-only
returns-in_ok-limited-in-Some-clause-only c = λ other rest whole are.
    some_limits c.in-Some.limits c.args.lines.now.items c.limits_at.new.lines.items c.limited.new.lines.items c.in_ok-limited-in-Some.field-0 other rest c.in-Some.ensures c.in_ok-limited-in-Some.ensures whole are
