use Rattle.std.proofs.Common.{ap}
use Rattle.cb_frames.specs.Limited.{Limited}
use Rattle.cb_interp.proofs.TurnsNativeExit.{exit_goes, exit_int, exit_made, exit_taken}
use Rattle.cb_interp.proofs.exit_turns.exit_turn.Goals as goal

pub unreachable-requires : goal.unreachable-requires
unreachable-requires g c =
    exit_goes c.args.program.now (g.S.Store.storage c.args.store.now).index (g.S.Store.storage c.args.store.now).kept c.args.roots.now.limit c.args.roots.now.roots g.outside c.args.decoded.now c.requires.1.1.1.method
    c.requires.1.1.0 c.requires.1.1.1.asked c.requires.1.1.1.is c.requires.1.0.linked c.requires.1.0.fits c.requires.1.0.typed
    (c.linked_has_natives.ensures c.args.program.now c.requires.1.0.linked c.requires.1.0.fits) c.in_default.is

pub take_status-requires-clause-int : goal.take_status-requires-clause-int
take_status-requires-clause-int g c =
    exit_int c.args.program.now (g.S.Store.storage c.args.store.now).index (g.S.Store.storage c.args.store.now).kept c.args.roots.now.limit c.args.roots.now.roots g.outside c.args.decoded.now c.requires.1.1.1.method
    c.requires.1.1.0 c.requires.1.1.1.asked c.requires.1.1.1.is c.requires.1.0.linked c.requires.1.0.fits c.requires.1.0.typed
    (c.linked_has_natives.ensures c.args.program.now c.requires.1.0.linked c.requires.1.0.fits)

pub take_status-requires-clause-there : goal.take_status-requires-clause-there
take_status-requires-clause-there g c =
    exit_taken c.args.program.now (g.S.Store.storage c.args.store.now).index (g.S.Store.storage c.args.store.now).kept c.args.roots.now.limit c.args.roots.now.roots g.outside c.args.decoded.now c.requires.1.1.1.method
    c.requires.1.1.0 c.requires.1.1.1.asked c.requires.1.1.1.is c.requires.1.0.linked c.requires.1.0.fits c.requires.1.0.typed
    (c.linked_has_natives.ensures c.args.program.now c.requires.1.0.linked c.requires.1.0.fits)

pub returns-clause-made : goal.returns-clause-made
returns-clause-made g c = λ status stands.
    exit_made c.args.program.now (g.S.Store.storage c.args.store.now).index (g.S.Store.storage c.args.store.now).kept c.args.roots.now.limit c.args.roots.now.roots g.outside c.args.decoded.now c.requires.1.1.1.method
    c.requires.1.1.0 c.requires.1.1.1.asked c.requires.1.1.1.is c.requires.1.0.linked c.requires.1.0.fits c.requires.1.0.typed
    (c.linked_has_natives.ensures c.args.program.now c.requires.1.0.linked c.requires.1.0.fits) status stands
    g.S.Store.rules (g.S.Store.storage c.args.store.now).facts c.take_status.new.roots.roots c.in-Some.next c.in-Some.is
    (ap (λ (held : Limited). held.roots) c.take_status.ensures.left)
