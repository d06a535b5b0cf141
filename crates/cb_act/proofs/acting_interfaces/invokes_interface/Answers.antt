use Rattle.cb_heap.specs.Storage.{view_in}
use Rattle.std.proofs.Common.{◌≡◌, ◌∙◌, ap, sym, Some}
use Rattle.cb_frames.specs.Tops.{topmost}
use Rattle.cb_frames.specs.declared.frame.Frame.TheVariants as shown
use Rattle.cb_act.specs.Acting.{interface_deed, on_method}
use Rattle.cb_act.proofs.InterfaceLaws.{called_in}
use Rattle.cb_act.proofs.acting_interfaces.invokes_interface.Goals as goal

pub calls_interface-requires-clause-fit : goal.calls_interface-requires-clause-fit
calls_interface-requires-clause-fit g c = λ called count numbered body low there has each.
    let program = c.args.program.now in
    let view = view_in (g.S.Store.storage c.args.store.now) c.args.roots.now.roots in
    let caller = c.in-Some-Running.caller in
    let top : Some (shown.Running caller c.in-Some-Running.field-0-1) ≡ topmost c.args.roots.now.roots.frames =
    ap Some (sym c.in-Some-Running.field-0-is) ∙ sym c.in-Some-Running.is ∙ c.top.ensures in
    c.requires.fit called count numbered body low there has
    (λ limit. called_in (g.S.Store.storage c.args.store.now).index (g.S.Store.storage c.args.store.now).kept c.args.roots.now.roots program c.args.index c.args.decoded.now.named caller c.in-Some-Running.field-0-1 top limit
    ∙ ap (on_method (interface_deed program limit view caller c.args.index)) c.in-Method.is
    ∙ each limit)
