use Rattle.std.proofs.Common.{sym, ◌∙◌}
use Rattle.cb_hierarchy.proofs.Once.{once_again, once_more}
use Rattle.cb_hierarchy.proofs.distinct.Distinct.push.Goals as goal

pub returns-in_ok-push : goal.returns-in_ok-push
returns-in_ok-push c = λ taken are. once_more taken _ _ _ _ c.args.number are (sym c.has.ensures ∙ c.if-not-has.true) c.in_ok-add.ensures.added c.in_ok-push.ensures.ok

pub returns-else-not-has : goal.returns-else-not-has
returns-else-not-has c = λ taken are. once_again taken _ _ c.args.number are (sym c.has.ensures ∙ c.if-not-has.false)
