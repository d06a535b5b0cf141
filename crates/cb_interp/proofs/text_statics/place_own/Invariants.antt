use Rattle.cb_heap.specs.Storage.{view_in}
use Rattle.std.proofs.Common.{◌≡◌}
use Rattle.std.specs.List.{fold}
use Rattle.cb_machine.specs.Initialising.{own_statics}
use Rattle.cb_machine.specs.Plans.{leaving}
use Rattle.cb_interp.specs.TextStatics.{set_initial}
use Rattle.cb_act.specs.Turning.{machine_of, state_of}
use Rattle.cb_interp.proofs.TurnsTextPlaced.{PlacedSoFar}
use Rattle.cb_interp.proofs.TurnsTextSlots.{slots_from}
use Rattle.cb_interp.proofs.text_statics.place_own.Given as goal

abbrev pub invariant-loop-slot : goal.invariant-loop-slot
invariant-loop-slot g l = record {
  so : PlacedSoFar g.S.Store.rules (machine_of l.program l.fn.roots.limit) (g.S.Store.storage l.fn.store).facts
      (fold (set_initial (machine_of l.program l.fn.roots.limit))
      (leaving (state_of (view_in (g.S.Store.storage l.fn.store) l.fn.roots.roots) g.outside)) (own_statics l.program l.class))
      g.outside (slots_from l.program l.class l.count l.slot)
      (view_in (g.S.Store.storage l.store) l.roots.roots) (g.S.Store.storage l.store).facts (g.S.Store.storage l.store).granted;
  limit : l.roots.limit ≡ l.fn.roots.limit;
  faults : (g.S.Store.storage l.store).faults ≡ (g.S.Store.storage l.fn.store).faults;
  settings : (g.S.Store.storage l.store).settings ≡ (g.S.Store.storage l.fn.store).settings;
}
