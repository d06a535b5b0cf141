use Rattle.cb_natives.proofs.texts.replaced_text.Goals as goal

pub returns-clause-is : goal.returns-clause-is
returns-clause-is g c = λ program. c.one_piece.ensures.is program (g.S.Store.storage c.args.store.now).kept (g.S.Store.storage c.args.store.now).index c.in-Some.ensures.units
