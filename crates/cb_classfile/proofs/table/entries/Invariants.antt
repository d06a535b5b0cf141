use Rattle.cb_classfile.proofs.Tabling.{Reached}
use Rattle.cb_classfile.proofs.table.entries.Given as goal

abbrev pub invariant-loop : goal.invariant-loop
invariant-loop g l = Reached (g.T.Entry.spells l.constants) l.count l.counter l.bytes l.entries l.rest
