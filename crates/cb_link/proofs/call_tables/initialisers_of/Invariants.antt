use Rattle.cb_link.specs.Calls.{initialiser}
use Rattle.cb_link.specs.InnerTables.{AreAll}
use Rattle.cb_link.proofs.call_tables.initialisers_of.Given as goal

abbrev pub invariant-loop-index : goal.invariant-loop-index
invariant-loop-index l = AreAll l.index (initialiser l.resolver) l.initialisers
