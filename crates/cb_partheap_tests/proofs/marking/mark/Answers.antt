use Rattle.cb_partheap_tests.proofs.Marks.{header, marking}
use Rattle.cb_partheap_tests.proofs.marking.mark.Goals as goal

pub mark_at-had-requires : goal.mark_at-had-requires
mark_at-had-requires c = header c.args.at c.heap.invariant c.heap.view_is c.requires

pub set_mark_at-requires-clause-there : goal.set_mark_at-requires-clause-there
set_mark_at-requires-clause-there c = header c.args.at c.heap.invariant c.heap.view_is c.requires

pub invariant_of-heap : goal.invariant_of-heap
invariant_of-heap c = (marking c.args.at 1 c.set_mark_at.new.words c.heap.invariant c.heap.view_is c.requires c.set_mark_at.ensures).heap_is

pub returns-clause-objects : goal.returns-clause-objects
returns-clause-objects c = (marking c.args.at 1 c.set_mark_at.new.words c.heap.invariant c.heap.view_is c.requires c.set_mark_at.ensures).objects

pub returns-clause-places : goal.returns-clause-places
returns-clause-places c = (marking c.args.at 1 c.set_mark_at.new.words c.heap.invariant c.heap.view_is c.requires c.set_mark_at.ensures).index
