use Rattle.cb_classfile.proofs.Finding.{Found}
use Rattle.cb_classfile.proofs.attribute.attributes_named.Given as goal

abbrev pub invariant-loop : goal.invariant-loop
invariant-loop l = Found l.constants l.name l.count l.counter l.initial.rest l.rest l.occurrence
