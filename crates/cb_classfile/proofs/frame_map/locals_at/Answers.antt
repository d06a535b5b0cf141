use Rattle.cb_classfile.proofs.frame_map.locals_at.Goals as goal

pub returns-in-Append : goal.returns-in-Append
returns-in-Append c = rw c.in-Append.is (rw c.from.ensures at c.entries.ensures)

pub returns-in-Full : goal.returns-in-Full
returns-in-Full c = rw c.in-Full.is c.table.ensures
