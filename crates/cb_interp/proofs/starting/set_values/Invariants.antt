use Rattle.std.proofs.Common.{◌≡◌, length}
use Rattle.cb_interp.proofs.TurnsStartingRoots.{first_from}
use Rattle.cb_interp.proofs.starting.set_values.Given as goal

abbrev pub invariant-loop-slot : goal.invariant-loop-slot
invariant-loop-slot l = record {
  set : first_from l.program l.count l.roots.roots l.slot ≡ first_from l.program l.count l.fn.roots.roots 0;
  statics : length l.roots.roots.statics ≡ length l.fn.roots.roots.statics;
  limit : l.roots.limit ≡ l.fn.roots.limit;
}
