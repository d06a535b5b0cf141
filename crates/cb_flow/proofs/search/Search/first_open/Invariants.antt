use Rattle.cb_flow.specs.Visits.{AreFull}
use Rattle.cb_flow.proofs.search.Search.first_open.Given as goal

abbrev pub invariant-loop-x : goal.invariant-loop-x
invariant-loop-x l = AreFull l.gains l.flow l.self.visits.items l.from l.x
