use Rattle.cb_partheap_tests.specs.Tried.{AllKept}
use Rattle.cb_memory_cases.proofs.parts.tell.Given as goal

abbrev pub invariant-loop : goal.invariant-loop
invariant-loop l = AllKept l.tried.heap l.tried.places.items × (goal.iterator-loop).can_next l.words × (goal.iterator-loop).is_finite l.words
