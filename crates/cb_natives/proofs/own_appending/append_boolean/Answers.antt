use Rattle.cb_natives.proofs.own_appending.append_boolean.Goals as goal

pub append-requires-clause-may : goal.append-requires-clause-may
append-requires-clause-may g c =
    record { is = c.truth_text.ensures.is c.args.program.now (g.S.Store.storage c.args.store.now).kept (g.S.Store.storage c.args.store.now).index; may = c.truth_text.ensures.may (g.S.Store.storage c.args.store.now).index }
