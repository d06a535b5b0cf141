use Rattle.std.proofs.Common.{ap, arith, refl, [], ◌∷◌}
use Rattle.std.proofs.lemmas.Bool.{false≢true}
use Rattle.cb_interp.proofs.RunCounts.{counts_as}
use Rattle.cb_act.specs.Turning.{machine_of, state_of}
use Rattle.cb_frames.specs.Limited.{Limited}
use Rattle.cb_heap.specs.Reading.{serial_of}
use Rattle.cb_heap.specs.Storage.{view_in}
use Rattle.cb_interp.proofs.TurnsNativeRead.{loses_fails, range_goes, range_takes, range_there, range_turned}
use Rattle.cb_interp.proofs.read_turns.fill_turn.Goals as goal

pub unreachable-requires : goal.unreachable-requires
unreachable-requires g c =
    range_goes c.args.program.now (g.S.Store.storage c.args.store.now).index (g.S.Store.storage c.args.store.now).kept c.args.roots.now.limit c.args.roots.now.roots g.outside c.args.decoded.now c.requires.1.1.1.1.0.method
    c.requires.1.1.1.0 c.requires.1.1.1.1.0.asked c.requires.1.1.1.1.0.is c.requires.1.1.0.linked c.requires.1.1.0.fits c.requires.1.1.0.typed
    (c.linked_has_natives.ensures c.args.program.now c.requires.1.1.0.linked c.requires.1.1.0.fits) (serial_of (g.S.Store.storage c.args.store.now).index c.args.range.at) c.args.range.from c.args.range.count
    c.requires.1.1.1.1.1.0 c.requires.1.1.1.1.1.1 c.in_default.is

pub leave_answer-requires-clause-there : goal.leave_answer-requires-clause-there
leave_answer-requires-clause-there g c =
    range_there c.args.program.now (g.S.Store.storage c.args.store.now).index (g.S.Store.storage c.args.store.now).kept c.args.roots.now.limit c.args.roots.now.roots g.outside c.args.decoded.now c.requires.1.1.1.1.0.method
    c.requires.1.1.1.0 c.requires.1.1.1.1.0.asked c.requires.1.1.1.1.0.is c.requires.1.1.0.linked c.requires.1.1.0.fits c.requires.1.1.0.typed
    (c.linked_has_natives.ensures c.args.program.now c.requires.1.1.0.linked c.requires.1.1.0.fits)

pub returns-in-Ok-clause-made : goal.returns-in-Ok-clause-made
returns-in-Ok-clause-made g c =
    range_turned c.args.program.now (g.S.Store.storage c.args.store.now).index (g.S.Store.storage c.args.store.now).kept c.args.roots.now.limit c.args.roots.now.roots g.outside c.args.decoded.now c.requires.1.1.1.1.0.method
    c.requires.1.1.1.0 c.requires.1.1.1.1.0.asked c.requires.1.1.1.1.0.is c.requires.1.1.0.linked c.requires.1.1.0.fits c.requires.1.1.0.typed
    (c.linked_has_natives.ensures c.args.program.now c.requires.1.1.0.linked c.requires.1.1.0.fits) (serial_of (g.S.Store.storage c.args.store.now).index c.args.range.at) c.args.range.from c.args.range.count
    c.requires.1.1.1.1.1.0 c.requires.1.1.1.1.1.1
    g.I.Source.left g.I.Source.gave g.S.Store.rules (g.S.Store.storage c.args.store.now).facts c.in-Some.next c.in-Some.is c.args.input.now c.read_into.new.input c.in-Ok.answer
    (g.S.Store.storage c.read_into.new.store).index (g.S.Store.storage c.read_into.new.store).kept (g.S.Store.storage c.read_into.new.store).facts c.leave_answer.new.roots.roots
    c.in-Ok.ensures.read c.in-Ok.ensures.places c.in-Ok.ensures.facts (ap (λ (held : Limited). held.roots) c.leave_answer.ensures)

pub returns-in-Err-clause-fails : goal.returns-in-Err-clause-fails
returns-in-Err-clause-fails g c =
    range_takes c.args.program.now (g.S.Store.storage c.args.store.now).index (g.S.Store.storage c.args.store.now).kept c.args.roots.now.limit c.args.roots.now.roots g.outside c.args.decoded.now c.requires.1.1.1.1.0.method
    c.requires.1.1.1.0 c.requires.1.1.1.1.0.asked c.requires.1.1.1.1.0.is c.requires.1.1.0.linked c.requires.1.1.0.fits c.requires.1.1.0.typed
    (c.linked_has_natives.ensures c.args.program.now c.requires.1.1.0.linked c.requires.1.1.0.fits) (serial_of (g.S.Store.storage c.args.store.now).index c.args.range.at) c.args.range.from c.args.range.count
    c.requires.1.1.1.1.1.0 c.requires.1.1.1.1.1.1
    (0 ∷ []) (omega (arith, c.requires.1.1.1.1.1.1)) c.in-Some.next c.in-Some.is

pub returns-in-Err-clause-lost : goal.returns-in-Err-clause-lost
returns-in-Err-clause-lost g c =
    loses_fails g.I.Source.left g.I.Source.gave (machine_of c.args.program.now c.args.roots.now.limit) (state_of (view_in (g.S.Store.storage c.args.store.now) c.args.roots.now.roots) g.outside) c.args.range.count c.args.input.now c.read_into.new.input
    (λ bytes few. range_takes c.args.program.now (g.S.Store.storage c.args.store.now).index (g.S.Store.storage c.args.store.now).kept c.args.roots.now.limit c.args.roots.now.roots g.outside c.args.decoded.now c.requires.1.1.1.1.0.method
    c.requires.1.1.1.0 c.requires.1.1.1.1.0.asked c.requires.1.1.1.1.0.is c.requires.1.1.0.linked c.requires.1.1.0.fits c.requires.1.1.0.typed
    (c.linked_has_natives.ensures c.args.program.now c.requires.1.1.0.linked c.requires.1.1.0.fits) (serial_of (g.S.Store.storage c.args.store.now).index c.args.range.at) c.args.range.from c.args.range.count
    c.requires.1.1.1.1.1.0 c.requires.1.1.1.1.1.1
    bytes few c.in-Some.next c.in-Some.is)
    c.in-Err.ensures.lost

pub returns-in-Ok-clause-read : goal.returns-in-Ok-clause-read
returns-in-Ok-clause-read g c =
    counts_as (g.I.Source.faults c.args.input.now) (g.I.Source.faults c.read_into.new.input) (λ is. absurd (false≢true is)) (λ is. absurd (cc is)) c.in-Ok.ensures.cause

pub returns-in-Err-clause-read : goal.returns-in-Err-clause-read
returns-in-Err-clause-read g c =
    counts_as (g.I.Source.faults c.args.input.now) (g.I.Source.faults c.read_into.new.input) (λ is. refl) (λ is. refl) c.in-Err.ensures.cause
