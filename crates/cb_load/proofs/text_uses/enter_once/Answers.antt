use Rattle.std.proofs.Common.{sym, ◌∙◌}
use Rattle.cb_load.proofs.UsedLaws.{enters_new, enters_old}
use Rattle.cb_load.proofs.text_uses.enter_once.Goals as goal

pub returns-then-has : goal.returns-then-has
returns-then-has c = enters_old c.args.pool.now c.args.usage c.args.uses.now c.args.entries.now (sym c.has.ensures ∙ c.if-has.true) c.requires

pub returns : goal.returns
returns c =
    enters_new c.args.pool.now c.args.usage c.args.uses.now c.add.new.self c.args.entries.now c.enter_use.new.entries
    c.in_ok-enter_use.ensures c.requires c.in_ok-add.ensures
