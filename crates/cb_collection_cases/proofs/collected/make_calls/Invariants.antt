use Rattle.cb_partheap.specs.Marks.{IsUnmarked}
use Rattle.cb_partheap_tests.specs.Tried.{AllKept}
use Rattle.cb_collection_cases.proofs.collected.make_calls.Given as goal

abbrev pub invariant-loop : goal.invariant-loop
invariant-loop l = AllKept l.tried.heap l.tried.places.items × IsUnmarked l.tried.heap × (goal.iterator-loop).can_next l.words × (goal.iterator-loop).is_finite l.words
