use Rattle.std.proofs.Common.{◌≡◌}
use Rattle.cb_heap.specs.Reading.{serial_of}
use Rattle.cb_natives.specs.MakingOwn.{deleted}
use Rattle.cb_natives.proofs.own_placing.close_up.Given as goal

abbrev pub invariant-loop-i : goal.invariant-loop-i
invariant-loop-i g l = record {
  kept : (g.S.Store.storage l.store).kept ≡ deleted (g.S.Store.storage l.fn.store).kept (serial_of (g.S.Store.storage l.fn.store).index l.array) l.place l.i;
  places : (g.S.Store.storage l.store).index ≡ (g.S.Store.storage l.fn.store).index;
  facts : (g.S.Store.storage l.store).facts ≡ (g.S.Store.storage l.fn.store).facts;
  faults : (g.S.Store.storage l.store).faults ≡ (g.S.Store.storage l.fn.store).faults;
  settings : (g.S.Store.storage l.store).settings ≡ (g.S.Store.storage l.fn.store).settings;
}
