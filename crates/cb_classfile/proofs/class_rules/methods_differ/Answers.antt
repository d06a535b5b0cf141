use Rattle.cb_classfile.proofs.class_rules.methods_differ.Goals as goal

pub returns : goal.returns
returns c = rw c.requires (rw c.as_slice.ensures at c.do_differ.ensures)
