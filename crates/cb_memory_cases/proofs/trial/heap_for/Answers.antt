use Rattle.std.proofs.Common.{arith}
use Rattle.cb_memory_cases.proofs.OneSite.{ready_made}
use Rattle.cb_memory_cases.proofs.trial.heap_for.Goals as goal

pub returns : goal.returns
returns c = ready_made c.in_ok-heap.ensures c.in_ok-shapes.ensures c.in_ok-site_parts.ensures.count c.in_ok-site_parts.ensures.below (omega arith)
