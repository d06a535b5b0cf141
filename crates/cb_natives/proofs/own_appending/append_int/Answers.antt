use Rattle.cb_natives.proofs.own_appending.append_int.Goals as goal

pub append-requires-clause-may : goal.append-requires-clause-may
append-requires-clause-may g c =
    record { is = c.decimal_text.ensures.is c.args.program.now (g.S.Store.storage c.args.store.now).kept (g.S.Store.storage c.args.store.now).index; may = c.decimal_text.ensures.may (g.S.Store.storage c.args.store.now).index }
