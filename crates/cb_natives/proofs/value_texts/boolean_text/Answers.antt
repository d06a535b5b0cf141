use Rattle.cb_natives.proofs.value_texts.boolean_text.Goals as goal

pub returns-in-Some-clause-is : goal.returns-in-Some-clause-is
returns-in-Some-clause-is g c = λ program. c.as_truth.ensures.is program (g.S.Store.storage c.args.store.now).kept (g.S.Store.storage c.args.store.now).index
