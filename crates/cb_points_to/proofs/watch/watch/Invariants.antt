use Rattle.cb_points_to.specs.Looking.{WatchesTo}
use Rattle.cb_points_to.proofs.watch.watch.Given as goal

abbrev pub invariant-loop-place : goal.invariant-loop-place
invariant-loop-place l = WatchesTo l.constraints l.watching l.place
