use Rattle.std.proofs.Common.{◌≡◌, ◌<◌, ◌+◌, ◌-◌, ◌/◌, ◌^◌, ◌++◌, length}
use Rattle.std.specs.Prelude.{take}
use Rattle.cb_heap.specs.Grants.{words_granted}
use Rattle.cb_heap.specs.Reading.{serial_of}
use Rattle.cb_heap.specs.Store.{ReadsAsBefore}
use Rattle.cb_interp.specs.Nested.{count_of, grid_on, knows_nested, nested_objects, sizes_on}
use Rattle.cb_interp.proofs.TurnsNestedRoom.{RoomLeft}
use Rattle.cb_interp.proofs.nested_turns.place_nested.Given as goal

-- what was there before the outermost array
abbrev pub ghost-place_level : goal.ghost-place_level
ghost-place_level g a = take (serial_of (g.S.Store.storage a.store.now).index a.array - 1) (g.S.Store.storage a.store.now).kept

abbrev pub invariant-loop-dimension : goal.invariant-loop-dimension
invariant-loop-dimension g l = record {
  kept : (g.S.Store.storage l.store).kept ≡ (g.S.Store.storage l.fn.store).kept ++ nested_objects l.program (grid_on l.program l.roots.roots (l.last + 1)) (length (g.S.Store.storage l.fn.store).kept + 1) l.dimension;
  array : serial_of (g.S.Store.storage l.store).index l.array ≡ length (g.S.Store.storage l.fn.store).kept + 1;
  places : ReadsAsBefore (g.S.Store.storage l.fn.store).kept (g.S.Store.storage l.fn.store).index (g.S.Store.storage l.store).index;
  facts : (g.S.Store.storage l.store).facts ≡ knows_nested g.S.Store.rules (g.S.Store.storage l.fn.store).facts (grid_on l.program l.roots.roots (l.last + 1)) (l.dimension + 1);
  room : RoomLeft (g.S.Store.storage l.store).granted (grid_on l.program l.roots.roots (l.last + 1)) (l.last + 1) (l.dimension + 1);
  serials : length (g.S.Store.storage l.store).kept + 1 + words_granted (g.S.Store.storage l.store).granted / 3 < 2 ^ 63;
  counted : l.count ≡ count_of (sizes_on l.roots.roots (l.last + 1)) l.dimension;
  faults : (g.S.Store.storage l.store).faults ≡ (g.S.Store.storage l.fn.store).faults;
  settings : (g.S.Store.storage l.store).settings ≡ (g.S.Store.storage l.fn.store).settings;
}
