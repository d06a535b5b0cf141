use Rattle.cb_heap.specs.Storage.{view_in}
use Rattle.std.proofs.Common.{◌∙◌, ap, Some}
use Rattle.std.specs.Prelude.{option_and_then}
use Rattle.cb_act.specs.Acting.{acted_as}
use Rattle.cb_act.proofs.acting.act_on_calls.Goals as goal

pub invokes_static-requires-clause-fit : goal.invokes_static-requires-clause-fit
invokes_static-requires-clause-fit g c = λ method count numbered body low is has enters.
    c.requires.suited.arguments method count numbered body low is has
    (λ limit. ap (option_and_then (acted_as c.args.program.now limit c.args.decoded.now (view_in (g.S.Store.storage c.args.store.now) c.args.roots.now.roots)))
    (c.requires.is ∙ ap Some c.in-InvokeStatic.is) ∙ enters limit)

pub invokes_special-requires-clause-fit : goal.invokes_special-requires-clause-fit
invokes_special-requires-clause-fit g c = λ method count numbered body low is has enters.
    c.requires.suited.arguments method count numbered body low is has
    (λ limit. ap (option_and_then (acted_as c.args.program.now limit c.args.decoded.now (view_in (g.S.Store.storage c.args.store.now) c.args.roots.now.roots)))
    (c.requires.is ∙ ap Some c.in-InvokeSpecial.is) ∙ enters limit)

pub invokes_virtual-requires-clause-fit : goal.invokes_virtual-requires-clause-fit
invokes_virtual-requires-clause-fit g c = λ method count numbered body low is has enters.
    c.requires.suited.arguments method count numbered body low is has
    (λ limit. ap (option_and_then (acted_as c.args.program.now limit c.args.decoded.now (view_in (g.S.Store.storage c.args.store.now) c.args.roots.now.roots)))
    (c.requires.is ∙ ap Some c.in-InvokeVirtual.is) ∙ enters limit)

pub invokes_interface-requires-clause-fit : goal.invokes_interface-requires-clause-fit
invokes_interface-requires-clause-fit g c = λ method count numbered body low is has enters.
    c.requires.suited.arguments method count numbered body low is has
    (λ limit. ap (option_and_then (acted_as c.args.program.now limit c.args.decoded.now (view_in (g.S.Store.storage c.args.store.now) c.args.roots.now.roots)))
    (c.requires.is ∙ ap Some c.in-InvokeInterface.is) ∙ enters limit)
