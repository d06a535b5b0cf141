use Rattle.std.proofs.Common.{subst}
use Rattle.cb_partheap.specs.Whole.{IsHeap}
use Rattle.cb_partheap.proofs.Closed.{closed_objects}
use Rattle.cb_partheap.proofs.Follows.{follows}
use Rattle.cb_partheap.proofs.Occupied.{used_is}
use Rattle.cb_partheap.proofs.part_heap.PartHeap.is_whole.Goals as goal

pub returns-clause-closed : goal.returns-clause-closed
returns-clause-closed c = closed_objects c.args.self.now (subst IsHeap c.self.view_is c.self.invariant)

pub returns-clause-follows : goal.returns-clause-follows
returns-clause-follows c = follows c.args.self.now (subst IsHeap c.self.view_is c.self.invariant)

pub returns-clause-used : goal.returns-clause-used
returns-clause-used c = λ part. used_is c.args.self.now part (subst IsHeap c.self.view_is c.self.invariant)
