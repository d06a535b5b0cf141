use Rattle.std.proofs.Common.{◌≡◌}
use Rattle.cb_heap.specs.Reading.{serial_of}
use Rattle.cb_plain.specs.Updates.{with_contents_in}
use Rattle.cb_heap.proofs.TextLaws.{filled}
use Rattle.cb_heap.proofs.text.write_units.Given as goal

abbrev pub invariant-loop-i : goal.invariant-loop-i
invariant-loop-i g l = record {
  kept : (g.S.Store.storage l.store).kept ≡ with_contents_in (g.S.Store.storage l.fn.store).kept (serial_of (g.S.Store.storage l.fn.store).index l.at) (filled l.units l.i);
  places : (g.S.Store.storage l.store).index ≡ (g.S.Store.storage l.fn.store).index;
  facts : (g.S.Store.storage l.store).facts ≡ (g.S.Store.storage l.fn.store).facts;
  granted : (g.S.Store.storage l.store).granted ≡ (g.S.Store.storage l.fn.store).granted;
  faults : (g.S.Store.storage l.store).faults ≡ (g.S.Store.storage l.fn.store).faults;
  settings : (g.S.Store.storage l.store).settings ≡ (g.S.Store.storage l.fn.store).settings;
}
