use Rattle.cb_natives.proofs.boxes.box_answer.Goals as goal

pub returns-in_default : goal.returns-in_default
returns-in_default g c = c.math_answer.ensures (g.S.Store.storage c.args.store.now).kept (g.S.Store.storage c.args.store.now).index
