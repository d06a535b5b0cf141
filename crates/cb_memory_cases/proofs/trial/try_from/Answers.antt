use Rattle.std.proofs.Common.{length, ap, arith}
use Rattle.cb_heap.specs.Shaped.{has_size, new_object}
use Rattle.cb_memory_cases.proofs.OneSite.{all_allowed, closed_ready, site_known}
use Rattle.cb_memory_cases.proofs.trial.try_from.Goals as goal

pub linked-requires-clause-closed : goal.linked-requires-clause-closed
linked-requires-clause-closed c = closed_ready c.args.store.now.heap c.args.roots.now.roots c.requires.ready c.requires.none

pub linked-requires-clause-sized : goal.linked-requires-clause-sized
linked-requires-clause-sized c = ap (λ shapes. has_size shapes 1 1) c.requires.ready.shapes

pub linked-requires-clause-blank : goal.linked-requires-clause-blank
linked-requires-clause-blank c = ap (λ shapes. (new_object shapes 0 1 1).contents) c.requires.ready.shapes

pub linked-requires-clause-serials : goal.linked-requires-clause-serials
linked-requires-clause-serials c = omega (arith, ap length c.requires.ready.objects)

pub linked-requires-clause-knows : goal.linked-requires-clause-knows
linked-requires-clause-knows c = site_known c.args.store.now.heap c.requires.ready

pub linked-requires-clause-allows : goal.linked-requires-clause-allows
linked-requires-clause-allows c = all_allowed c.args.store.now.heap c.requires.ready
