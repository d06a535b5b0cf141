use Rattle.std.proofs.Common.{inl, inr, refl, rules}
use Rattle.cb_act.specs.Turning.{machine_of, moment_in, state_of}
use Rattle.cb_heap.specs.Storage.{view_in}
use Rattle.cb_interp.proofs.RunSteps.{gc_ends, print_ends, read_ends}
use Rattle.cb_interp.proofs.RunTurns.{whole}
use Rattle.cb_interp.proofs.Sweeps.{native_still}
use Rattle.cb_interp.proofs.needed_turns.outside_turn.Goals as goal

pub returns-in-ReadByte : goal.returns-in-ReadByte
returns-in-ReadByte g c =
    read_ends g.I.Source.left g.I.Source.gave g.S.Store.rules c.args.program.now g.outside (g.S.Store.storage c.args.store.now) (g.S.Store.storage c.read_turn.new.store) c.args.roots.now c.read_turn.new.roots c.args.input.now (g.I.Source.faults c.args.input.now) (g.O.Sink.taken c.args.out.now) (g.O.Sink.faults c.args.out.now)
    c.read_turn.new.input (g.I.Source.faults c.read_turn.new.input) c.read_turn.result
    (native_still (machine_of c.args.program.now c.args.roots.now.limit) (state_of (view_in (g.S.Store.storage c.args.store.now) c.args.roots.now.roots) g.outside) c.args.decoded.now c.requires.1.1.1.1.0 c.args.native c.requires.1.1.1.1.1.0 (λ same. elim c.in-ReadByte.is [ inl is ↦ cc (same, is) | inr is ↦ cc (same, is) ]))
    c.read_turn.ensures.made c.read_turn.ensures.stopped c.read_turn.ensures.lost c.read_turn.ensures.counted c.read_turn.ensures.read c.read_turn.ensures.limit c.read_turn.ensures.settings

pub returns-in-SystemGc : goal.returns-in-SystemGc
returns-in-SystemGc g c =
    gc_ends g.I.Source.left g.I.Source.gave g.S.Store.rules c.args.program.now g.outside (g.S.Store.storage c.args.store.now) (g.S.Store.storage c.gc_turn.new.store) c.args.roots.now c.gc_turn.new.roots c.args.input.now (g.I.Source.faults c.args.input.now) (g.O.Sink.taken c.args.out.now) (g.O.Sink.faults c.args.out.now) c.gc_turn.result c.stopped.result c.stopped.ensures
    c.gc_turn.ensures.made c.gc_turn.ensures.unreported c.gc_turn.ensures.counted c.gc_turn.ensures.limit c.gc_turn.ensures.settings

pub returns-in-SystemExit : goal.returns-in-SystemExit
returns-in-SystemExit g c = record {
  made = tt;
  stopped = whole g.S.Store.rules (machine_of c.args.program.now c.args.roots.now.limit) (moment_in (g.S.Store.storage c.args.store.now) c.args.roots.now.roots g.outside) _
      (native_still (machine_of c.args.program.now c.args.roots.now.limit) (state_of (view_in (g.S.Store.storage c.args.store.now) c.args.roots.now.roots) g.outside) c.args.decoded.now c.requires.1.1.1.1.0 c.args.native c.requires.1.1.1.1.1.0 (λ same. cc (same, c.in-SystemExit.is)))
      (c.exit_turn-status.ensures.made _ (search rules));
  left = refl;
  lost = refl;
  counted = search rules;
  output = search rules;
  read = search rules;
  limit = c.exit_turn-status.ensures.limit;
  settings = refl;
}

pub returns-in_default : goal.returns-in_default
returns-in_default g c =
    print_ends g.I.Source.left g.I.Source.gave g.S.Store.rules c.args.program.now g.outside (g.S.Store.storage c.args.store.now) c.args.roots.now c.native_turn.new.roots c.args.input.now
    (g.I.Source.faults c.args.input.now) (g.O.Sink.taken c.args.out.now) (g.O.Sink.taken c.native_turn.new.out) (g.O.Sink.faults c.args.out.now) (g.O.Sink.faults c.native_turn.new.out) c.native_turn.result
    (native_still (machine_of c.args.program.now c.args.roots.now.limit) (state_of (view_in (g.S.Store.storage c.args.store.now) c.args.roots.now.roots) g.outside) c.args.decoded.now c.requires.1.1.1.1.0 c.args.native c.requires.1.1.1.1.1.0 c.in_default.not-SystemGc)
    c.native_turn.ensures.made c.native_turn.ensures.same c.native_turn.ensures.left c.native_turn.ensures.only c.native_turn.ensures.output c.native_turn.ensures.limit
