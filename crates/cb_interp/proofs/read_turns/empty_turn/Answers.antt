use Rattle.std.proofs.Common.{ℕ, ap, map, subst}
use Rattle.cb_frames.specs.Limited.{Limited}
use Rattle.cb_heap.specs.Reading.{read_value, serial_of}
use Rattle.cb_natives.specs.Input.{IsRange}
use Rattle.cb_interp.specs.Performing.{arguments_at}
use Rattle.cb_interp.proofs.TurnsNativeRead.{empty_goes, empty_turned, range_there}
use Rattle.cb_interp.proofs.read_turns.empty_turn.Goals as goal

pub unreachable-requires : goal.unreachable-requires
unreachable-requires g c =
    empty_goes c.args.program.now (g.S.Store.storage c.args.store.now).index (g.S.Store.storage c.args.store.now).kept c.args.roots.now.limit c.args.roots.now.roots g.outside c.args.decoded.now c.requires.1.1.1.0.method
    c.requires.1.1.0 c.requires.1.1.1.0.asked c.requires.1.1.1.0.is c.requires.1.0.linked c.requires.1.0.fits c.requires.1.0.typed
    (c.linked_has_natives.ensures c.args.program.now c.requires.1.0.linked c.requires.1.0.fits) (serial_of (g.S.Store.storage c.args.store.now).index c.args.range.at) c.args.range.from
    (subst (λ (count : ℕ). IsRange (g.S.Store.storage c.args.store.now).kept (map (read_value (g.S.Store.storage c.args.store.now).index) (arguments_at c.args.program.now c.args.decoded.now c.args.roots.now.roots)) (serial_of (g.S.Store.storage c.args.store.now).index c.args.range.at) c.args.range.from count) c.requires.1.1.1.1.1 c.requires.1.1.1.1.0)
    c.in_default.is

pub leave_answer-requires-clause-there : goal.leave_answer-requires-clause-there
leave_answer-requires-clause-there g c =
    range_there c.args.program.now (g.S.Store.storage c.args.store.now).index (g.S.Store.storage c.args.store.now).kept c.args.roots.now.limit c.args.roots.now.roots g.outside c.args.decoded.now c.requires.1.1.1.0.method
    c.requires.1.1.0 c.requires.1.1.1.0.asked c.requires.1.1.1.0.is c.requires.1.0.linked c.requires.1.0.fits c.requires.1.0.typed
    (c.linked_has_natives.ensures c.args.program.now c.requires.1.0.linked c.requires.1.0.fits)

pub returns-clause-made : goal.returns-clause-made
returns-clause-made g c =
    empty_turned c.args.program.now (g.S.Store.storage c.args.store.now).index (g.S.Store.storage c.args.store.now).kept c.args.roots.now.limit c.args.roots.now.roots g.outside c.args.decoded.now c.requires.1.1.1.0.method
    c.requires.1.1.0 c.requires.1.1.1.0.asked c.requires.1.1.1.0.is c.requires.1.0.linked c.requires.1.0.fits c.requires.1.0.typed
    (c.linked_has_natives.ensures c.args.program.now c.requires.1.0.linked c.requires.1.0.fits) (serial_of (g.S.Store.storage c.args.store.now).index c.args.range.at) c.args.range.from
    (subst (λ (count : ℕ). IsRange (g.S.Store.storage c.args.store.now).kept (map (read_value (g.S.Store.storage c.args.store.now).index) (arguments_at c.args.program.now c.args.decoded.now c.args.roots.now.roots)) (serial_of (g.S.Store.storage c.args.store.now).index c.args.range.at) c.args.range.from count) c.requires.1.1.1.1.1 c.requires.1.1.1.1.0)
    g.S.Store.rules (g.S.Store.storage c.args.store.now).facts c.leave_answer.new.roots.roots c.in-Some.next c.in-Some.is
    (ap (λ (held : Limited). held.roots) c.leave_answer.ensures)
