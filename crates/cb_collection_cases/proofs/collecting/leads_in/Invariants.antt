use Rattle.std.proofs.Common.{◌≡◌, ◌<◌, ℕ, true}
use Rattle.cb_dag.specs.Graphs.{HasEdge}
use Rattle.cb_dag.specs.Marks.{marked}
use Rattle.cb_collection_cases.proofs.collecting.leads_in.Given as goal

abbrev pub invariant-loop-other : goal.invariant-loop-other
invariant-loop-other l = (k : ℕ) → k < l.other → HasEdge l.edges l.part k → marked l.set k ≡ true → ⊥
