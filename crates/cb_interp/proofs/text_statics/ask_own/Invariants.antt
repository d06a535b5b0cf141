use Rattle.cb_heap.specs.Reading.{read_roots}
use Rattle.cb_heap.specs.Storage.{view_in}
use Rattle.cb_machine.specs.Initialising.{begun_upon}
use Rattle.cb_act.specs.Turning.{machine_of, state_of}
use Rattle.cb_interp.proofs.TurnsTextAsks.{AskedSoFar}
use Rattle.cb_interp.proofs.text_statics.ask_own.Given as goal

abbrev pub invariant-loop-slot : goal.invariant-loop-slot
invariant-loop-slot g l =
    AskedSoFar l.program l.roots.limit l.class l.count (read_roots (g.S.Store.storage l.store).index l.roots.roots).tables.constants
    (begun_upon (machine_of l.program l.roots.limit) (state_of (view_in (g.S.Store.storage l.store) l.roots.roots) g.outside)
    (read_roots (g.S.Store.storage l.store).index l.roots.roots).frames l.class)
    l.slot l.request
