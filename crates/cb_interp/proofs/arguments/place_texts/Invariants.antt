use Rattle.std.proofs.Common.{◌≡◌, ◌+◌, ◌*◌, ◌++◌, [], drop, length, Some}
use Rattle.std.specs.List.{flat_map}
use Rattle.std.specs.Prelude.{option_map}
use Rattle.cb_heap.specs.Reading.{serial_of}
use Rattle.cb_heap.specs.Store.{ReadsAsBefore}
use Rattle.cb_machine.specs.Sites.{arguments}
use Rattle.cb_plain.specs.Updates.{object_in}
use Rattle.cb_interp.specs.Arguments.{Covers, HasArray, knows_texts, stream_wants, text_wants, with_texts}
use Rattle.cb_interp.proofs.arguments.place_texts.Given as goal

abbrev pub invariant-loop-i : goal.invariant-loop-i
invariant-loop-i g l = record {
  kept : with_texts l.program (g.S.Store.storage l.store).kept l.i (drop l.i l.texts) ≡ with_texts l.program (g.S.Store.storage l.fn.store).kept 0 l.texts;
  long : length (g.S.Store.storage l.store).kept ≡ 2 * l.i + 1;
  array : serial_of (g.S.Store.storage l.store).index l.array ≡ 1;
  places : ReadsAsBefore [] (g.S.Store.storage l.fn.store).index (g.S.Store.storage l.store).index;
  facts : knows_texts g.S.Store.rules (g.S.Store.storage l.store).facts (drop l.i l.texts) ≡ knows_texts g.S.Store.rules (g.S.Store.storage l.fn.store).facts l.texts;
  granted : Covers (g.S.Store.storage l.store).granted (flat_map text_wants (drop l.i l.texts) ++ stream_wants);
  sited : option_map (λ object. object.site) (object_in (g.S.Store.storage l.store).kept 1) ≡ Some arguments;
  there : HasArray (g.S.Store.storage l.store).kept (length l.texts);
  faults : (g.S.Store.storage l.store).faults ≡ (g.S.Store.storage l.fn.store).faults;
  settings : (g.S.Store.storage l.store).settings ≡ (g.S.Store.storage l.fn.store).settings;
}
