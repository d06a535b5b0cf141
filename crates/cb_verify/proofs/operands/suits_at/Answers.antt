use Rattle.std.proofs.Common.{◌∙◌, ap, arith, ◌+◌, ◌&&◌, drop, nat_lt, sym}
use Rattle.cb_verify.specs.InnerPrefixes.{begins_as}
use Rattle.cb_verify.specs.Types.{is_of}
use Rattle.cb_verify.proofs.Prefixes.{not_one_more, one_more}
use Rattle.cb_verify.proofs.operands.suits_at.Goals as goal

pub returns-then-place-depth : goal.returns-then-place-depth
returns-then-place-depth c =
    one_more is_of c.args.sorts.now c.args.frame.now.stack c.args.place c.sort_at-sort.result c.top.result c.is_of.result c.sort_at-sort.ensures c.top.ensures c.is_of.ensures

pub returns-else-place-depth : goal.returns-else-place-depth
returns-else-place-depth c =
    not_one_more is_of c.args.sorts.now c.args.frame.now.stack c.args.place c.sort_at-sort.result c.sort_at-sort.ensures (omega (arith, c.if-place-depth.false, c.depth.ensures))
    ∙ ap (λ depth. nat_lt c.args.place depth && begins_as is_of (drop (c.args.place + 1) c.args.sorts.now) (drop (c.args.place + 1) c.args.frame.now.stack)) (sym c.depth.ensures)
