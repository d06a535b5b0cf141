use Rattle.std.proofs.Common.{◌≡◌, length}
use Rattle.cb_unwind.proofs.OwnSlots.{left_from}
use Rattle.cb_unwind.proofs.beginning.set_own.Given as goal

abbrev pub invariant-loop-slot : goal.invariant-loop-slot
invariant-loop-slot l = record {
  set : left_from l.program l.class l.count l.roots.roots l.slot ≡ left_from l.program l.class l.count l.fn.roots.roots 0;
  statics : length l.roots.roots.statics ≡ length l.fn.roots.roots.statics;
  limit : l.roots.limit ≡ l.fn.roots.limit;
}
