use Rattle.cb_partheap.specs.Marks.{IsUnmarked}
use Rattle.cb_partheap_tests.specs.Tried.{AllKept}
use Rattle.cb_collection_cases.proofs.timed.plant_arrays.Given as goal

abbrev pub invariant-loop-word : goal.invariant-loop-word
invariant-loop-word l = AllKept l.tried.heap l.tried.places.items × IsUnmarked l.tried.heap
