use Rattle.cb_heap.specs.Storage.{view_in}
use Rattle.std.proofs.Common.{◌∙◌, ap}
use Rattle.cb_act.specs.Acting.{call_deed}
use Rattle.cb_act.proofs.acting_calls.calls.Goals as goal

pub enters-requires-clause-fit : goal.enters-requires-clause-fit
enters-requires-clause-fit g c = λ method count numbered body low there has each.
    c.requires.fit method count numbered body low there has
    (λ limit. ap (call_deed c.args.program.now limit (view_in (g.S.Store.storage c.args.store.now) c.args.roots.now.roots) c.args.count) c.in-Method.is ∙ each limit)
