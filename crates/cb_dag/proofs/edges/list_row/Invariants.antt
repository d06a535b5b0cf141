use Rattle.std.proofs.Common.{◌-◌, length}
use Rattle.cb_dag.specs.Listing.{IsListing}
use Rattle.cb_dag.proofs.edges.list_row.Given as goal

abbrev pub invariant-loop-other : goal.invariant-loop-other
invariant-loop-other l = IsListing l.joined l.edges.items l.node l.from

abbrev pub decreases-loop-other : goal.decreases-loop-other
decreases-loop-other l = length l.joined - l.from
