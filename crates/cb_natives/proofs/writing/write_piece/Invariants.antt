use Rattle.std.proofs.Common.{◌≡◌, ◌≤◌, length}
use Rattle.cb_heap.specs.Reading.{serial_of}
use Rattle.cb_natives.specs.Pieces.{piece_units}
use Rattle.cb_natives.proofs.Writes.{wrote_back}
use Rattle.cb_natives.proofs.writing.write_piece.Given as goal

abbrev pub invariant-loop-left : goal.invariant-loop-left
invariant-loop-left g l = record {
  kept : (g.S.Store.storage l.store).kept
      ≡ wrote_back (g.S.Store.storage l.fn.store).kept (serial_of (g.S.Store.storage l.fn.store).index l.to) l.from (piece_units l.program (g.S.Store.storage l.fn.store).kept (g.S.Store.storage l.fn.store).index l.piece) l.left;
  low : l.left ≤ length (piece_units l.program (g.S.Store.storage l.fn.store).kept (g.S.Store.storage l.fn.store).index l.piece);
  places : (g.S.Store.storage l.store).index ≡ (g.S.Store.storage l.fn.store).index;
  facts : (g.S.Store.storage l.store).facts ≡ (g.S.Store.storage l.fn.store).facts;
  granted : (g.S.Store.storage l.store).granted ≡ (g.S.Store.storage l.fn.store).granted;
  faults : (g.S.Store.storage l.store).faults ≡ (g.S.Store.storage l.fn.store).faults;
  settings : (g.S.Store.storage l.store).settings ≡ (g.S.Store.storage l.fn.store).settings;
}

abbrev pub decreases-loop-left : goal.decreases-loop-left
decreases-loop-left g l = l.left
