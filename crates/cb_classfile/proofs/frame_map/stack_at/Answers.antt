use Rattle.std.proofs.Common.{inl, inr}
use Rattle.cb_classfile.proofs.frame_map.stack_at.Goals as goal

pub returns-in-SameOneItem : goal.returns-in-SameOneItem
returns-in-SameOneItem c = elim c.in-SameOneItem.is [ inl is ↦ rw is c.entries.ensures | inr is ↦ rw is c.entries.ensures ]

pub returns-in-Full : goal.returns-in-Full
returns-in-Full c = rw c.in-Full.is c.table.ensures
