use Rattle.std.proofs.Common.{◌≡◌, ◌+◌, ◌<◌, ◌^◌, ◌∙◌, ap, arith, length, Some, slice_get, subst, sym}
use Rattle.cb_heap.specs.Reading.{serial_of}
use Rattle.cb_natives.specs.MakingArrays.{IsLaid}
use Rattle.cb_natives.proofs.CopyAdded.{room_wanted}
use Rattle.cb_natives.proofs.FollowLaws.{follows_one}
use Rattle.cb_natives.proofs.copy_placing.give.Goals as goal

pub place_copy-requires-clause-laid : goal.place_copy-requires-clause-laid
place_copy-requires-clause-laid g c =
    subst (λ shape. IsLaid (g.S.Store.storage c.args.store.now).kept shape (serial_of (g.S.Store.storage c.args.store.now).index c.args.from)) (sym c.shape.ensures)
    (c.requires.may.laid (g.S.Store.storage c.args.store.now).settings.shapes c.requires.shaped c.requires.holds)

pub place_copy-requires-clause-granted : goal.place_copy-requires-clause-granted
place_copy-requires-clause-granted g c =
    let few : c.args.size < 2 ^ 32 = omega (arith, c.ranges.size) in
    room_wanted (g.S.Store.storage c.args.store.now).granted c.args.site c.args.size few c.requires.room.granted

pub place_copy-requires-clause-shape : goal.place_copy-requires-clause-shape
place_copy-requires-clause-shape g c =
    subst (λ shape. slice_get (g.S.Store.storage c.args.store.now).settings.shapes c.args.kind ≡ Some shape) (sym c.shape.ensures) (c.requires.holds.each c.args.kind c.requires.may.of)

pub place_copy-requires-clause-serials : goal.place_copy-requires-clause-serials
place_copy-requires-clause-serials g c = let serials = c.requires.room.serials in omega (arith, serials)

pub returns-clause-kept : goal.returns-clause-kept
returns-clause-kept g c = c.place_copy.ensures.kept

pub returns-clause-facts : goal.returns-clause-facts
returns-clause-facts g c =
    c.place_copy.ensures.facts ∙ ap (g.S.Store.rules.placed (g.S.Store.storage c.args.store.now).facts c.args.site) c.requires.may.whole

pub place_copy-requires-clause-follows : goal.place_copy-requires-clause-follows
place_copy-requires-clause-follows g c =
    follows_one (g.S.Store.storage c.args.store.now).settings.allows _ (length (g.S.Store.storage c.args.store.now).kept + 1) c.requires.follows
