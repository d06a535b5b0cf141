use Rattle.std.proofs.Common.{ap}
use Rattle.cb_act.specs.Turning.{machine_of, state_of}
use Rattle.cb_frames.specs.Limited.{Limited}
use Rattle.cb_heap.specs.Storage.{view_in}
use Rattle.cb_interp.proofs.TurnsNativeRead.{byte_goes, byte_takes, byte_turned, kept_fails, stream_there}
use Rattle.cb_interp.proofs.read_turns.byte_turn.Goals as goal

pub unreachable-requires : goal.unreachable-requires
unreachable-requires g c =
    byte_goes c.args.program.now (g.S.Store.storage c.args.store.now).index (g.S.Store.storage c.args.store.now).kept c.args.roots.now.limit c.args.roots.now.roots g.outside c.args.decoded.now c.requires.1.1.1.1.method
    c.requires.1.1.1.0 c.requires.1.1.1.1.asked c.requires.1.1.1.1.is c.requires.1.1.0.linked c.requires.1.1.0.fits c.requires.1.1.0.typed
    (c.linked_has_natives.ensures c.args.program.now c.requires.1.1.0.linked c.requires.1.1.0.fits) c.in_default.is

pub leave_answer-requires-clause-there : goal.leave_answer-requires-clause-there
leave_answer-requires-clause-there g c =
    stream_there c.args.program.now (g.S.Store.storage c.args.store.now).index (g.S.Store.storage c.args.store.now).kept c.args.roots.now.limit c.args.roots.now.roots g.outside c.args.decoded.now c.requires.1.1.1.1.method
    c.requires.1.1.1.0 c.requires.1.1.1.1.asked c.requires.1.1.1.1.is c.requires.1.1.0.linked c.requires.1.1.0.fits c.requires.1.1.0.typed
    (c.linked_has_natives.ensures c.args.program.now c.requires.1.1.0.linked c.requires.1.1.0.fits)

pub returns-in-Ok-clause-made : goal.returns-in-Ok-clause-made
returns-in-Ok-clause-made g c =
    byte_turned c.args.program.now (g.S.Store.storage c.args.store.now).index (g.S.Store.storage c.args.store.now).kept c.args.roots.now.limit c.args.roots.now.roots g.outside c.args.decoded.now c.requires.1.1.1.1.method
    c.requires.1.1.1.0 c.requires.1.1.1.1.asked c.requires.1.1.1.1.is c.requires.1.1.0.linked c.requires.1.1.0.fits c.requires.1.1.0.typed
    (c.linked_has_natives.ensures c.args.program.now c.requires.1.1.0.linked c.requires.1.1.0.fits)
    g.I.Source.left g.I.Source.gave g.S.Store.rules (g.S.Store.storage c.args.store.now).facts c.in-Some.next c.in-Some.is c.args.input.now c.read_byte.new.input c.in-Ok.answer c.in-Ok.ensures.read
    c.leave_answer.new.roots.roots (ap (λ (held : Limited). held.roots) c.leave_answer.ensures)

pub returns-in-Err-clause-fails : goal.returns-in-Err-clause-fails
returns-in-Err-clause-fails g c =
    byte_takes c.args.program.now (g.S.Store.storage c.args.store.now).index (g.S.Store.storage c.args.store.now).kept c.args.roots.now.limit c.args.roots.now.roots g.outside c.args.decoded.now c.requires.1.1.1.1.method
    c.requires.1.1.1.0 c.requires.1.1.1.1.asked c.requires.1.1.1.1.is c.requires.1.1.0.linked c.requires.1.1.0.fits c.requires.1.1.0.typed
    (c.linked_has_natives.ensures c.args.program.now c.requires.1.1.0.linked c.requires.1.1.0.fits) c.in-Some.next c.in-Some.is

pub returns-in-Err-clause-lost : goal.returns-in-Err-clause-lost
returns-in-Err-clause-lost g c =
    kept_fails g.I.Source.left g.I.Source.gave (machine_of c.args.program.now c.args.roots.now.limit) (state_of (view_in (g.S.Store.storage c.args.store.now) c.args.roots.now.roots) g.outside) c.args.input.now c.read_byte.new.input
    (byte_takes c.args.program.now (g.S.Store.storage c.args.store.now).index (g.S.Store.storage c.args.store.now).kept c.args.roots.now.limit c.args.roots.now.roots g.outside c.args.decoded.now c.requires.1.1.1.1.method
    c.requires.1.1.1.0 c.requires.1.1.1.1.asked c.requires.1.1.1.1.is c.requires.1.1.0.linked c.requires.1.1.0.fits c.requires.1.1.0.typed
    (c.linked_has_natives.ensures c.args.program.now c.requires.1.1.0.linked c.requires.1.1.0.fits) c.in-Some.next c.in-Some.is)
    c.in-Err.ensures.lost
