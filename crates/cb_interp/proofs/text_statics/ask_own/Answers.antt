use Rattle.cb_heap.specs.Storage.{view_in}
use Rattle.std.proofs.Common.{◌∙◌, arith}
use Rattle.std.proofs.lemmas.List.{length-map}
use Rattle.cb_heap.proofs.Laws.{reads_room}
use Rattle.cb_heap.specs.Reading.{read_roots, serial_of}
use Rattle.cb_machine.specs.Initialising.{begun_upon}
use Rattle.cb_act.specs.Turning.{machine_of, state_of}
use Rattle.cb_interp.proofs.TurnsTextAsks.{asked_first, asked_last, asked_next}
use Rattle.cb_interp.proofs.text_statics.ask_own.Goals as goal

pub loop-slot-init : goal.loop-slot-init
loop-slot-init g c =
    asked_first c.args.program.now c.args.roots.now.limit c.args.class c.static_count-count.result c.static_count-count.ensures
    (state_of (view_in (g.S.Store.storage c.args.store.now) c.args.roots.now.roots) g.outside)
    (read_roots (g.S.Store.storage c.args.store.now).index c.args.roots.now.roots).frames
    (reads_room (g.S.Store.storage c.args.store.now).index c.args.roots.now.roots c.args.roots.now.limit 0 ∙ c.requires.1.1.1.1)
    (let low = c.requires.1.1.1.0 in
    let same = length-map c.args.roots.now.roots.tables.constants (serial_of (g.S.Store.storage c.args.store.now).index) in
    omega (arith, low, same))
    c.args.request.now c.requires.1.0

pub ask_at-requires-clause-asks : goal.ask_at-requires-clause-asks
ask_at-requires-clause-asks g c = c.loop-slot.invariant.few

pub loop-slot-preserved : goal.loop-slot-preserved
loop-slot-preserved g c =
    asked_next c.args.program.now c.args.roots.now.limit c.args.class c.static_count-count.result (g.S.Store.storage c.args.store.now).index c.args.roots.now.roots
    (begun_upon (machine_of c.args.program.now c.args.roots.now.limit)
    (state_of (view_in (g.S.Store.storage c.args.store.now) c.args.roots.now.roots) g.outside)
    (read_roots (g.S.Store.storage c.args.store.now).index c.args.roots.now.roots).frames c.args.class)
    c.loop-slot.slot c.loop-slot.request c.ask_at.new.request c.loop-slot.invariant c.loop-slot-test.true c.requires.1.1.0 c.static_count-count.ensures c.ask_at.ensures

pub returns-clause-asks : goal.returns-clause-asks
returns-clause-asks g c =
    asked_last c.args.program.now c.args.roots.now.limit c.args.class c.static_count-count.result (read_roots (g.S.Store.storage c.args.store.now).index c.args.roots.now.roots).tables.constants
    (begun_upon (machine_of c.args.program.now c.args.roots.now.limit)
    (state_of (view_in (g.S.Store.storage c.args.store.now) c.args.roots.now.roots) g.outside)
    (read_roots (g.S.Store.storage c.args.store.now).index c.args.roots.now.roots).frames c.args.class)
    c.loop-slot.slot c.loop-slot.request c.loop-slot.invariant (omega arith)

pub returns-clause-sites : goal.returns-clause-sites
returns-clause-sites g c = c.loop-slot.invariant.few
