use Rattle.std.proofs.Common.{◌≡◌, length}
use Rattle.cb_machine.specs.Library.{system}
use Rattle.cb_interp.proofs.TurnsStartingRoots.{streams_from}
use Rattle.cb_interp.proofs.starting.set_streams.Given as goal

abbrev pub invariant-loop-slot : goal.invariant-loop-slot
invariant-loop-slot l = record {
  set : streams_from l.program system l.count l.roots.roots l.next l.input l.slot ≡ streams_from l.program system l.count l.fn.roots.roots l.out l.input 0;
  statics : length l.roots.roots.statics ≡ length l.fn.roots.roots.statics;
  limit : l.roots.limit ≡ l.fn.roots.limit;
}
