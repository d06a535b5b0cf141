use Rattle.std.proofs.Common.{◌≡◌, ◌≤◌, ◌<◌, ◌-◌, ◌^◌}
use Rattle.cb_heap.specs.Reading.{serial_of}
use Rattle.cb_natives.specs.Asking.{Calls}
use Rattle.cb_natives.specs.Input.{MovesInto}
use Rattle.cb_natives.proofs.input.read_range.Given as goal

abbrev pub invariant-loop-taken : goal.invariant-loop-taken
invariant-loop-taken g l = record {
  moves : MovesInto (λ bytes. Calls g.I.Source.gave l.fn.input bytes l.input) (g.I.Source.left l.fn.input) (g.I.Source.left l.input) (g.S.Store.storage l.fn.store).kept (g.S.Store.storage l.store).kept (serial_of (g.S.Store.storage l.fn.store).index l.at) l.from l.taken;
  most : l.taken ≤ l.count;
  never_falls : g.I.Source.faults l.fn.input ≤ g.I.Source.faults l.input;
  unfailed : g.I.Source.faults l.fn.input < 2 ^ 64 - 1 → g.I.Source.faults l.input ≤ g.I.Source.faults l.fn.input;
  places : (g.S.Store.storage l.store).index ≡ (g.S.Store.storage l.fn.store).index;
  facts : (g.S.Store.storage l.store).facts ≡ (g.S.Store.storage l.fn.store).facts;
  granted : (g.S.Store.storage l.store).granted ≡ (g.S.Store.storage l.fn.store).granted;
  faults : (g.S.Store.storage l.store).faults ≡ (g.S.Store.storage l.fn.store).faults;
  settings : (g.S.Store.storage l.store).settings ≡ (g.S.Store.storage l.fn.store).settings;
}

abbrev pub decreases-loop-taken : goal.decreases-loop-taken
decreases-loop-taken g l = l.count - l.taken
