use Rattle.cb_heap.specs.Storage.{view_in}
use Rattle.std.proofs.Common.{◌∙◌, List, ℕ}
use Rattle.cb_heap.specs.Reading.{serial_of}
use Rattle.cb_machine.specs.Enums.{constant_named, gives_static}
use Rattle.cb_machine.specs.Performing.{on_text}
use Rattle.cb_natives.proofs.EnumLaws.{class_ready}
use Rattle.cb_natives.specs.Enums.{call_in}
use Rattle.cb_natives.proofs.enums.constant_of.Goals as goal

pub returns-in-Busy-clause-found : goal.returns-in-Busy-clause-found
returns-in-Busy-clause-found g c =
    λ frames input printed.
    let call = call_in c.args.program.now (view_in (g.S.Store.storage c.args.store.now) c.args.roots.now.roots) frames input printed in
    class_ready call c.args.class
    (on_text call (serial_of (g.S.Store.storage c.args.store.now).index c.args.name) (λ (units : List ℕ). gives_static call (constant_named c.args.program.now c.args.class units)))
    c.state.result c.state.ensures c.in-Busy.is ∙ c.ready_constant.ensures.found frames input printed
