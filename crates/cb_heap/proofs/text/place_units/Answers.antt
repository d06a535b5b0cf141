use Rattle.std.proofs.Common.{◌∙◌, ap, ◌+◌, length}
use Rattle.cb_plain.specs.State.{Object}
use Rattle.cb_plain.specs.Updates.{with_contents_in}
use Rattle.cb_heap.specs.Shaped.{new_object}
use Rattle.cb_heap.specs.Text.{unit_contents}
use Rattle.cb_heap.proofs.TextLaws.{with_last}
use Rattle.cb_heap.proofs.text.place_units.Goals as goal

pub returns-clause-kept : goal.returns-clause-kept
returns-clause-kept g c =
    let objects = (g.S.Store.storage c.args.store.now).kept in
    let after = (g.S.Store.storage c.place-at.new.self).index in
    let one : Object = new_object (g.S.Store.storage c.args.store.now).settings.shapes c.args.site c.args.kind (length c.args.units.now) in
    c.write_units.ensures.kept
    ∙ ap (λ serial. with_contents_in (g.S.Store.storage c.place-at.new.self).kept serial (unit_contents c.args.units.now)) c.place-at.ensures.serial
    ∙ ap (λ kept. with_contents_in kept (length objects + 1) (unit_contents c.args.units.now)) c.place-at.ensures.kept
    ∙ with_last objects one (unit_contents c.args.units.now)
