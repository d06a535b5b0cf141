use Rattle.std.proofs.Common.{◌≡◌, ◌<◌, ℕ, true}
use Rattle.cb_dag.specs.Graphs.{HasEdge}
use Rattle.cb_dag.specs.Marks.{marked}
use Rattle.cb_collection_cases.proofs.collecting.is_closed_set.Given as goal

abbrev pub invariant-loop-part : goal.invariant-loop-part
invariant-loop-part l = (part : ℕ) → part < l.part → (other : ℕ) → HasEdge l.edges part other → marked l.set other ≡ true → marked l.set part ≡ true
