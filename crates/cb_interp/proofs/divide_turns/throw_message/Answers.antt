use Rattle.cb_heap.proofs.Laws.{same_allows}
use Rattle.cb_heap.specs.Storage.{view_in}
use Rattle.std.proofs.Common.{◌∙◌, ◌++◌, ◌∷◌, [], IsTrue, List, Option, Some, ap, subst, sym}
use Rattle.cb_heap.specs.Kept.{content_at, is_held, is_reference, with_content}
use Rattle.cb_heap.specs.Reading.{serial_of}
use Rattle.cb_heap.specs.Store.{may_point}
use Rattle.cb_machine.specs.Sites.{arithmetic}
use Rattle.cb_plain.specs.State.{Object, Reference}
use Rattle.cb_interp.proofs.TurnsNeedDivides.{message_allowed, message_held, thrown_so, word_there}
use Rattle.cb_interp.proofs.divide_turns.throw_message.Goals as goal

pub put_ref-requires-clause-there : goal.put_ref-requires-clause-there
put_ref-requires-clause-there g c =
    subst (λ (objects : List (Option Object)). IsTrue (is_reference (content_at objects (serial_of (g.S.Store.storage c.place-at.new.self).index c.place-at.result) 0)))
    (sym (c.place-at.ensures.kept ∙ ap (λ (object : Object). (g.S.Store.storage c.args.store.now).kept ++ Some object ∷ []) c.requires.shaped))
    (word_there (g.S.Store.storage c.args.store.now).kept (g.S.Store.storage c.args.store.now).index (g.S.Store.storage c.place-at.new.self).index c.place-at.result c.args.message c.args.kind c.place-at.ensures.places c.place-at.ensures.serial c.requires.there)

pub put_ref-requires-clause-held : goal.put_ref-requires-clause-held
put_ref-requires-clause-held g c =
    subst (λ (objects : List (Option Object)). IsTrue (is_held objects (serial_of (g.S.Store.storage c.place-at.new.self).index c.args.message)))
    (sym (c.place-at.ensures.kept ∙ ap (λ (object : Object). (g.S.Store.storage c.args.store.now).kept ++ Some object ∷ []) c.requires.shaped))
    (message_held (g.S.Store.storage c.args.store.now).kept (g.S.Store.storage c.args.store.now).index (g.S.Store.storage c.place-at.new.self).index c.place-at.result c.args.message c.args.kind c.place-at.ensures.places c.place-at.ensures.serial c.requires.there)

pub put_ref-requires-clause-allowed : goal.put_ref-requires-clause-allowed
put_ref-requires-clause-allowed g c =
    subst (λ (objects : List (Option Object)). IsTrue (may_point (g.S.Store.storage c.place-at.new.self).settings.allows objects
    (serial_of (g.S.Store.storage c.place-at.new.self).index c.place-at.result) (serial_of (g.S.Store.storage c.place-at.new.self).index c.args.message)))
    (sym (c.place-at.ensures.kept ∙ ap (λ (object : Object). (g.S.Store.storage c.args.store.now).kept ++ Some object ∷ []) c.requires.shaped))
    (message_allowed (g.S.Store.storage c.args.store.now).kept (g.S.Store.storage c.args.store.now).index (g.S.Store.storage c.place-at.new.self).index c.place-at.result c.args.message c.args.kind c.place-at.ensures.places c.place-at.ensures.serial c.requires.there
    (g.S.Store.storage c.place-at.new.self).settings.allows (λ object is. ap (λ allows. allows arithmetic object.site) (same_allows c.place-at.ensures.settings) ∙ c.requires.allowed object is))

pub returns-clause-behind : goal.returns-clause-behind
returns-clause-behind g c =
    ap (λ held. view_in (g.S.Store.storage c.put_ref.new.self) held.roots) c.set_pending.ensures
    ∙ thrown_so (g.S.Store.storage c.args.store.now).kept (g.S.Store.storage c.args.store.now).index (g.S.Store.storage c.place-at.new.self).index c.place-at.result c.args.message c.args.kind c.place-at.ensures.places c.place-at.ensures.serial c.requires.there
    c.args.roots.now.roots c.requires.held (g.S.Store.storage c.put_ref.new.self).kept (g.S.Store.storage c.put_ref.new.self).index
    (c.put_ref.ensures.kept
    ∙ ap (λ objects. with_content objects (serial_of (g.S.Store.storage c.place-at.new.self).index c.place-at.result) 0 (Reference (serial_of (g.S.Store.storage c.place-at.new.self).index c.args.message)))
    (c.place-at.ensures.kept ∙ ap (λ (object : Object). (g.S.Store.storage c.args.store.now).kept ++ Some object ∷ []) c.requires.shaped))
    c.put_ref.ensures.places
