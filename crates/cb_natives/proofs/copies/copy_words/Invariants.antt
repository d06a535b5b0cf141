use Rattle.std.proofs.Common.{◌≡◌, ◌≤◌}
use Rattle.cb_heap.specs.Reading.{serial_of}
use Rattle.cb_natives.proofs.CopyLaws.{copied_back}
use Rattle.cb_natives.proofs.copies.copy_words.Given as goal

abbrev pub invariant-loop-left : goal.invariant-loop-left
invariant-loop-left g l = record {
  kept : (g.S.Store.storage l.store).kept
      ≡ copied_back (g.S.Store.storage l.fn.store).kept (serial_of (g.S.Store.storage l.fn.store).index l.source) l.start (serial_of (g.S.Store.storage l.fn.store).index l.to) l.at l.count l.left;
  low : l.left ≤ l.count;
  places : (g.S.Store.storage l.store).index ≡ (g.S.Store.storage l.fn.store).index;
  facts : (g.S.Store.storage l.store).facts ≡ (g.S.Store.storage l.fn.store).facts;
  granted : (g.S.Store.storage l.store).granted ≡ (g.S.Store.storage l.fn.store).granted;
  faults : (g.S.Store.storage l.store).faults ≡ (g.S.Store.storage l.fn.store).faults;
  settings : (g.S.Store.storage l.store).settings ≡ (g.S.Store.storage l.fn.store).settings;
}

abbrev pub decreases-loop-left : goal.decreases-loop-left
decreases-loop-left g l = l.left
