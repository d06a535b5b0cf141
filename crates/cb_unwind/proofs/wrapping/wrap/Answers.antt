use Rattle.cb_heap.specs.Storage.{view_in}
use Rattle.std.proofs.Common.{◌∙◌, ap, ◌++◌, ◌∷◌, [], List, Option, Some}
use Rattle.cb_heap.specs.Kept.{with_content}
use Rattle.cb_heap.specs.Reading.{seen, serial_of}
use Rattle.cb_plain.specs.State.{Object, Reference}
use Rattle.cb_unwind.specs.Unwound.{cause_word}
use Rattle.cb_unwind.proofs.WrapLaws.{new, wrapped_so}
use Rattle.cb_unwind.proofs.wrapping.wrap.Goals as goal

pub returns-clause-behind : goal.returns-clause-behind
returns-clause-behind g c =
    let before = (g.S.Store.storage c.args.store.now).index in
    let after = (g.S.Store.storage c.place-at.new.self).index in
    let objects : List (Option Object) = (g.S.Store.storage c.args.store.now).kept in
    let more : List (Option Object) = objects ++ Some (new (g.S.Store.storage c.args.store.now).settings.shapes c.args.kind c.requires.shape) ∷ [] in
    ap (λ roots. view_in (g.S.Store.storage c.put_ref.new.self) roots.roots) c.set_pending.ensures
    ∙ wrapped_so (g.S.Store.storage c.args.store.now).settings.shapes c.args.kind c.requires.shape objects before after c.args.roots.now.roots c.place-at.result
    c.place-at.ensures.places c.place-at.ensures.serial c.requires.there c.requires.closed (g.S.Store.storage c.put_ref.new.self).kept (g.S.Store.storage c.put_ref.new.self).index
    (c.put_ref.ensures.kept
    ∙ ap (λ kept. with_content kept (serial_of after c.place-at.result) cause_word (Reference (serial_of after c.pending-cause.result))) c.place-at.ensures.kept
    ∙ ap (λ cause. with_content more (serial_of after c.place-at.result) cause_word (Reference (serial_of after cause))) c.pending-cause.ensures)
    c.put_ref.ensures.places
