use Rattle.std.proofs.Common.{◌≡◌, ◌<◌, ◌+◌, ◌/◌, ◌^◌, length}
use Rattle.cb_heap.specs.Grants.{words_granted}
use Rattle.cb_heap.specs.Reading.{serial_of}
use Rattle.cb_heap.specs.Store.{ReadsAsBefore}
use Rattle.cb_plain.specs.State.{words_of}
use Rattle.cb_interp.specs.Nested.{HeldOn, knows_rows, spent_rows}
use Rattle.cb_interp.proofs.TurnsNested.{filled_so}
use Rattle.cb_interp.proofs.nested_turns.fill_array.Given as goal

abbrev pub invariant-loop-word : goal.invariant-loop-word
invariant-loop-word g l = record {
  kept : (g.S.Store.storage l.store).kept ≡ filled_so l.program (g.S.Store.storage l.fn.store).kept (serial_of (g.S.Store.storage l.fn.store).index l.array) l.count l.word l.site l.size;
  array : serial_of (g.S.Store.storage l.store).index l.array ≡ serial_of (g.S.Store.storage l.fn.store).index l.array;
  held : HeldOn (g.S.Store.storage l.fn.store).kept (g.S.Store.storage l.store).kept;
  places : ReadsAsBefore (g.S.Store.storage l.fn.store).kept (g.S.Store.storage l.fn.store).index (g.S.Store.storage l.store).index;
  facts : (g.S.Store.storage l.store).facts ≡ knows_rows g.S.Store.rules (g.S.Store.storage l.fn.store).facts l.site l.size l.word;
  granted : (g.S.Store.storage l.store).granted ≡ spent_rows (g.S.Store.storage l.fn.store).granted l.site (words_of l.size) l.word;
  serials : length (g.S.Store.storage l.store).kept + 1 + words_granted (g.S.Store.storage l.store).granted / 3 < 2 ^ 63;
  faults : (g.S.Store.storage l.store).faults ≡ (g.S.Store.storage l.fn.store).faults;
  settings : (g.S.Store.storage l.store).settings ≡ (g.S.Store.storage l.fn.store).settings;
}
