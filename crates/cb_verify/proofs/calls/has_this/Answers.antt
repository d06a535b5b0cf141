use Rattle.cb_verify.proofs.Prefixes.{without_by}
use Rattle.cb_verify.proofs.calls.has_this.Goals as goal

pub returns-then-place-depth-clause-left : goal.returns-then-place-depth-clause-left
returns-then-place-depth-clause-left c =
    without_by c.args.frame.now.stack c.args.place c.top.result c.is_same.result c.top.ensures c.is_same.ensures
