use Rattle.std.proofs.Common.{◌≡◌, length}
use Rattle.cb_interp.proofs.TurnsStartingRoots.{ready_from}
use Rattle.cb_interp.proofs.starting.ready_classes.Given as goal

abbrev pub invariant-loop-class : goal.invariant-loop-class
invariant-loop-class l = record {
  set : ready_from l.count l.roots.roots l.class ≡ ready_from l.count l.fn.roots.roots 0;
  classes : length l.roots.roots.classes ≡ length l.fn.roots.roots.classes;
  limit : l.roots.limit ≡ l.fn.roots.limit;
}
