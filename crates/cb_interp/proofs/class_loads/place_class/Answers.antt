use Rattle.cb_heap.specs.Storage.{view_in}
use Rattle.std.proofs.Common.{◌∙◌, ◌++◌, ◌∷◌, [], IsTrue, List, Option, Some, ap, arith, pos, subst, sym}
use Rattle.std.specs.Int.{int_wrap, w64}
use Rattle.cb_heap.specs.Kept.{content_at, is_number, with_content}
use Rattle.cb_heap.specs.Reading.{serial_of}
use Rattle.cb_plain.specs.State.{Number, Object}
use Rattle.cb_interp.proofs.TurnsNeedClasses.{class_placed, class_shaped, class_sized, number_there}
use Rattle.cb_interp.proofs.class_loads.place_class.Goals as goal

pub place-at-requires-clause-shaped : goal.place-at-requires-clause-shaped
place-at-requires-clause-shaped g c = class_sized (g.S.Store.storage c.args.store.now).settings.shapes c.args.own c.requires.shape

pub put-requires : goal.put-requires
put-requires g c =
    subst (λ (objects : List (Option Object)). IsTrue (is_number (content_at objects (serial_of (g.S.Store.storage c.place-at.new.self).index c.place-at.result) 0)))
    (sym (c.place-at.ensures.kept ∙ ap (λ (object : Object). (g.S.Store.storage c.args.store.now).kept ++ Some object ∷ []) (class_shaped (g.S.Store.storage c.args.store.now).settings.shapes c.args.own c.requires.shape)))
    (number_there (g.S.Store.storage c.args.store.now).kept (g.S.Store.storage c.args.store.now).index (g.S.Store.storage c.place-at.new.self).index c.place-at.result c.args.own c.place-at.ensures.serial)

pub returns-clause-behind : goal.returns-clause-behind
returns-clause-behind g c =
    ap (λ held. (serial_of (g.S.Store.storage c.put.new.self).index c.place-at.result, view_in (g.S.Store.storage c.put.new.self) held.roots)) c.set_table.ensures
    ∙ class_placed (g.S.Store.storage c.args.store.now).kept (g.S.Store.storage c.args.store.now).index (g.S.Store.storage c.place-at.new.self).index c.place-at.result c.args.own c.place-at.ensures.serial
    c.place-at.ensures.places c.args.roots.now.roots c.requires.held c.args.kind c.from.result (let fits = c.ranges.kind.fits in omega (arith, fits)) c.from.ensures
    (g.S.Store.storage c.put.new.self).kept (g.S.Store.storage c.put.new.self).index
    (c.put.ensures.kept
    ∙ ap (λ objects. with_content objects (serial_of (g.S.Store.storage c.place-at.new.self).index c.place-at.result) 0 (Number (int_wrap w64 (pos c.from.result))))
    (c.place-at.ensures.kept ∙ ap (λ (object : Object). (g.S.Store.storage c.args.store.now).kept ++ Some object ∷ []) (class_shaped (g.S.Store.storage c.args.store.now).settings.shapes c.args.own c.requires.shape)))
    c.put.ensures.places
