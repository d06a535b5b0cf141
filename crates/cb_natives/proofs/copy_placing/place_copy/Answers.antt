use Rattle.std.proofs.Common.{◌≡◌, ◌+◌, ◌<◌, ◌≤◌, ◌^◌, ◌∙◌, ◌++◌, ◌∷◌, [], Some, ap, arith, length, refl, subst, sym}
use Rattle.cb_heap.proofs.Laws.{same_allows}
use Rattle.cb_heap.specs.Kept.{contents_at}
use Rattle.cb_heap.specs.Reading.{serial_of}
use Rattle.cb_machine.specs.Plans.{object_of}
use Rattle.cb_plain.specs.State.{Object}
use Rattle.cb_natives.specs.Copies.{copied}
use Rattle.cb_natives.specs.MakingArrays.{HasSize}
use Rattle.cb_natives.proofs.CopyPlaced.{blank_so, can_copy, copied_whole, new_so, new_words}
use Rattle.cb_natives.proofs.FollowLaws.{follows_from_so}
use Rattle.cb_natives.proofs.copy_placing.place_copy.Goals as goal

pub copy_words-requires-clause-may : goal.copy_words-requires-clause-may
copy_words-requires-clause-may g c =
    let objects = (g.S.Store.storage c.args.store.now).kept in
    let source = serial_of (g.S.Store.storage c.args.store.now).index c.args.from in
    let after = (g.S.Store.storage c.place-at.new.self).index in
    let now = (g.S.Store.storage c.place-at.new.self).kept in
    let shape = c.args.shape.now in
    let size = c.args.size in
    let sized : HasSize shape size = subst (HasSize shape) (sym c.requires.size) c.requires.laid.sized in
    let placed : now ≡ objects ++ Some (object_of c.args.site c.args.kind (new_words size shape)) ∷ [] =
    c.place-at.ensures.kept ∙ ap (λ (object : Object). objects ++ Some object ∷ []) (new_so (g.S.Store.storage c.args.store.now).settings.shapes shape c.args.site c.args.kind size c.requires.shape) in
    let fits : size ≤ size = omega arith in
    let few : size < 2 ^ 32 = omega (arith, c.ranges.size) in
    can_copy objects c.args.site c.args.kind size shape source size c.requires.laid c.requires.size (blank_so shape size sized) fits few now placed (serial_of after c.args.from) (serial_of after c.place-at.result) (c.place-at.ensures.places c.args.from c.requires.laid.held) c.place-at.ensures.serial

pub copy_words-requires-clause-follows : goal.copy_words-requires-clause-follows
copy_words-requires-clause-follows g c =
    let objects = (g.S.Store.storage c.args.store.now).kept in
    let source = serial_of (g.S.Store.storage c.args.store.now).index c.args.from in
    let after = (g.S.Store.storage c.place-at.new.self).index in
    let now = (g.S.Store.storage c.place-at.new.self).kept in
    let shape = c.args.shape.now in
    let size = c.args.size in
    let sized : HasSize shape size = subst (HasSize shape) (sym c.requires.size) c.requires.laid.sized in
    let placed : now ≡ objects ++ Some (object_of c.args.site c.args.kind (new_words size shape)) ∷ [] =
    c.place-at.ensures.kept ∙ ap (λ (object : Object). objects ++ Some object ∷ []) (new_so (g.S.Store.storage c.args.store.now).settings.shapes shape c.args.site c.args.kind size c.requires.shape) in
    let fits : size ≤ size = omega arith in
    let few : size < 2 ^ 32 = omega (arith, c.ranges.size) in
    let source_at = serial_of after c.args.from in
    let own = serial_of after c.place-at.result in
    follows_from_so (g.S.Store.storage c.args.store.now).settings.allows (g.S.Store.storage c.place-at.new.self).settings.allows (same_allows c.place-at.ensures.settings)
    (objects ++ Some (object_of c.args.site c.args.kind (contents_at objects source)) ∷ []) (copied now source_at 0 own 0 size)
    (copied_whole objects c.args.site c.args.kind size shape source size c.requires.laid c.requires.size (blank_so shape size sized) fits few now placed source_at own (c.place-at.ensures.places c.args.from c.requires.laid.held) c.place-at.ensures.serial refl)
    (length objects + 1) own c.place-at.ensures.serial c.requires.follows

pub returns-clause-kept : goal.returns-clause-kept
returns-clause-kept g c =
    let objects = (g.S.Store.storage c.args.store.now).kept in
    let source = serial_of (g.S.Store.storage c.args.store.now).index c.args.from in
    let after = (g.S.Store.storage c.place-at.new.self).index in
    let now = (g.S.Store.storage c.place-at.new.self).kept in
    let shape = c.args.shape.now in
    let size = c.args.size in
    let sized : HasSize shape size = subst (HasSize shape) (sym c.requires.size) c.requires.laid.sized in
    let placed : now ≡ objects ++ Some (object_of c.args.site c.args.kind (new_words size shape)) ∷ [] =
    c.place-at.ensures.kept ∙ ap (λ (object : Object). objects ++ Some object ∷ []) (new_so (g.S.Store.storage c.args.store.now).settings.shapes shape c.args.site c.args.kind size c.requires.shape) in
    let fits : size ≤ size = omega arith in
    let few : size < 2 ^ 32 = omega (arith, c.ranges.size) in
    c.copy_words.ensures.kept ∙ copied_whole objects c.args.site c.args.kind size shape source size c.requires.laid c.requires.size (blank_so shape size sized) fits few now placed (serial_of after c.args.from) (serial_of after c.place-at.result) (c.place-at.ensures.places c.args.from c.requires.laid.held) c.place-at.ensures.serial refl
