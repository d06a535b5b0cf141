use Rattle.std.proofs.Common.{◌∙◌, ap, arith, ◌+◌, ◌&&◌, drop, nat_lt, sym}
use Rattle.cb_verify.specs.InnerPrefixes.{begins_as}
use Rattle.cb_verify.specs.InnerPrefixes.{is_wanted}
use Rattle.cb_verify.specs.Types.{goes_to}
use Rattle.cb_verify.proofs.Prefixes.{not_one_more, one_more}
use Rattle.cb_verify.proofs.operands.goes_at.Goals as goal

pub returns-then-place-depth : goal.returns-then-place-depth
returns-then-place-depth c =
    one_more (is_wanted c.args.program.now) c.args.member.now.takes c.args.frame.now.stack c.args.place c.takes-wanted.result c.top.result c.goes_to.result c.takes-wanted.ensures c.top.ensures (c.goes_to.ensures ∙ ap (λ type. goes_to c.args.program.now c.top.result type) c.of_basic.ensures)

pub returns-else-place-depth : goal.returns-else-place-depth
returns-else-place-depth c =
    not_one_more (is_wanted c.args.program.now) c.args.member.now.takes c.args.frame.now.stack c.args.place c.takes-wanted.result c.takes-wanted.ensures (omega (arith, c.if-place-depth.false, c.depth.ensures))
    ∙ ap (λ depth. nat_lt c.args.place depth && begins_as (is_wanted c.args.program.now) (drop (c.args.place + 1) c.args.member.now.takes) (drop (c.args.place + 1) c.args.frame.now.stack)) (sym c.depth.ensures)
