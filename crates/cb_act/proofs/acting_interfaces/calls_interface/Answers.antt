use Rattle.cb_heap.specs.Storage.{view_in}
use Rattle.std.proofs.Common.{◌∙◌, ap, sym, Some}
use Rattle.std.specs.Prelude.{if◌then◌else◌}
use Rattle.cb_machine.specs.Sites.{incompatible_class_change}
use Rattle.cb_act.specs.Acting.{Asks, implementing_deed}
use Rattle.cb_act.specs.declared.need.Need.TheVariants as needs
use Rattle.cb_act.proofs.acting_interfaces.calls_interface.Goals as goal

pub calls_implementing-requires-clause-fit : goal.calls_implementing-requires-clause-fit
calls_implementing-requires-clause-fit g c = λ called number numbered body low there has each.
    c.requires.fit called number numbered body low there has
    (λ limit. ap (λ private. if private then Some (Asks (needs.Throws incompatible_class_change))
    else implementing_deed c.args.program.now limit (view_in (g.S.Store.storage c.args.store.now) c.args.roots.now.roots) c.args.caller c.args.index c.args.method)
    (sym c.is_private.ensures ∙ c.if-is_private.false)
    ∙ each limit)
