use Rattle.cb_natives.proofs.texts.object_text.Goals as goal

pub returns-clause-is : goal.returns-clause-is
returns-clause-is g c = λ program. record { first = tt; second = c.ascii_text.ensures.is program (g.S.Store.storage c.args.store.now).kept (g.S.Store.storage c.args.store.now).index; third = c.hex_text.ensures.is program (g.S.Store.storage c.args.store.now).kept (g.S.Store.storage c.args.store.now).index }
