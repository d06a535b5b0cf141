use Rattle.cb_heap.specs.Storage.{view_in}
use Rattle.std.proofs.Common.{◌≡◌, ◌≤◌, ◌-◌, ◌+◌, ◌*◌, length, true}
use Rattle.cb_interp.specs.Running.{outside_of, somewhere}
use Rattle.cb_act.specs.Turning.{machine_of, moment_of, most_at_once}
use Rattle.cb_io.specs.Faults.{CountsFaults}
use Rattle.cb_interp.proofs.RunGoes.{HasCome}
use Rattle.cb_interp.proofs.running.run.Given as goal

abbrev pub ghost-turns : goal.ghost-turns
ghost-turns g a = somewhere

abbrev pub invariant-loop-made : goal.invariant-loop-made
invariant-loop-made g l = record {
  come : HasCome g.I.Source.left g.I.Source.gave g.S.Store.rules (machine_of l.program l.fn.roots.limit)
      (moment_of (view_in (g.S.Store.storage l.fn.store) l.fn.roots.roots) (outside_of g.full) (g.S.Store.storage l.fn.store).facts) g.full l.fn.input l.made
      (view_in (g.S.Store.storage l.store) l.roots.roots) (g.S.Store.storage l.store).facts l.input (g.O.Sink.taken l.fn.out) (g.O.Sink.taken l.out);
  low : l.made ≤ l.steps;
  few : g.S.Store.rules.fixed ≡ true → length (g.S.Store.storage l.store).kept ≤ length (g.S.Store.storage l.fn.store).kept + l.made * most_at_once;
  limit : l.roots.limit ≡ l.fn.roots.limit;
  settings : (g.S.Store.storage l.store).settings ≡ (g.S.Store.storage l.fn.store).settings;
  faults : CountsFaults (g.S.Store.storage l.fn.store).faults (g.S.Store.storage l.store).faults ⊥;
  output : CountsFaults (g.O.Sink.faults l.fn.out) (g.O.Sink.faults l.out) ⊥;
  read : CountsFaults (g.I.Source.faults l.fn.input) (g.I.Source.faults l.input) ⊥;
}

abbrev pub decreases-loop-made : goal.decreases-loop-made
decreases-loop-made g l = l.steps - l.made
