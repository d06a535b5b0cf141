use Rattle.std.proofs.Common.{◌∙◌, ap, sym}
use Rattle.cb_machine.specs.Machine.{or_zero}
use Rattle.cb_interp.proofs.TurnsNeedDivides.{message_there}
use Rattle.cb_interp.proofs.divide_turns.divide_need.Goals as goal

pub table-requires : goal.table-requires
table-requires g c =
    message_there c.args.program.now (g.S.Store.storage c.args.store.now).index (g.S.Store.storage c.args.store.now).kept c.args.roots.now.roots g.outside c.requires.1.0.typed (c.linked_constants.ensures.message c.args.program.now c.requires.1.0.linked)

pub divide_known-requires : goal.divide_known-requires
divide_known-requires g c = λ κs lives.
    let some = c.linked_constants.ensures.message c.args.program.now c.requires.1.0.linked in (lives, (c.requires.1.0, (c.requires.1.1, (some, (message_there c.args.program.now (g.S.Store.storage c.args.store.now).index (g.S.Store.storage c.args.store.now).kept c.args.roots.now.roots g.outside c.requires.1.0.typed some, λ new. c.if-table-ne0.true (sym (ap or_zero c.table.ensures) ∙ new))))))

pub divide_new-requires : goal.divide_new-requires
divide_new-requires g c = λ κs lives.
    let some = c.linked_constants.ensures.message c.args.program.now c.requires.1.0.linked in (lives, (c.requires.1.0, (c.requires.1.1, (some, (message_there c.args.program.now (g.S.Store.storage c.args.store.now).index (g.S.Store.storage c.args.store.now).kept c.args.roots.now.roots g.outside c.requires.1.0.typed some, (ap or_zero c.table.ensures ∙ c.if-table-ne0.false, c.linked_constants.ensures.texts c.args.program.now (g.S.Store.storage c.args.store.now).settings.shapes c.requires.1.0.linked c.requires.1.0.fits c.requires.1.0.shaped 0))))))
