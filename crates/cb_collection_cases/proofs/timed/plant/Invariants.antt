use Rattle.cb_partheap.specs.Marks.{IsUnmarked}
use Rattle.cb_partheap_tests.specs.Tried.{AllKept}
use Rattle.cb_collection_cases.proofs.timed.plant.Given as goal

abbrev pub invariant-loop-before : goal.invariant-loop-before
invariant-loop-before l = AllKept l.tried.heap l.tried.places.items × IsUnmarked l.tried.heap
