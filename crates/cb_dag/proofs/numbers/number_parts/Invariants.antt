use Rattle.cb_dag.specs.Numbers.{IsNumbering}
use Rattle.cb_dag.proofs.numbers.number_parts.Given as goal

abbrev pub invariant-loop-root : goal.invariant-loop-root
invariant-loop-root l = IsNumbering l.roots l.root-index l.parts l.numbers.items l.part_of.items
