use Rattle.std.proofs.Common.{◌<◌, ◌∙◌, arith, refl}
use Rattle.cb_heap.proofs.Laws.{same_allows}
use Rattle.cb_heap.specs.Reading.{serial_of}
use Rattle.cb_natives.proofs.RangeLaws.{up_copied_there, up_held_there, up_may_there, up_none, up_put_there, up_read_there}
use Rattle.cb_natives.proofs.copies.copy_up.Goals as goal

pub loop-i-init : goal.loop-i-init
loop-i-init g c =
    let objects = (g.S.Store.storage c.args.store.now).kept in
    let index = (g.S.Store.storage c.args.store.now).index in
    record {
      kept = up_none objects c.args.shape.now (serial_of index c.args.source) c.args.start (serial_of index c.args.to) c.args.at c.args.count c.requires.may;
      places = refl;
      facts = refl;
      granted = refl;
      faults = refl;
      settings = refl;
    }

pub copy_word-requires-clause-read : goal.copy_word-requires-clause-read
copy_word-requires-clause-read g c =
    let objects = (g.S.Store.storage c.args.store.now).kept in
    let index = (g.S.Store.storage c.args.store.now).index in
    let before = c.loop-i.invariant in
    let low : c.loop-i.i < c.args.count = omega (arith, c.loop-i-test.true) in
    up_read_there objects index (g.S.Store.storage c.loop-i.store).index c.args.shape.now c.args.source c.args.start c.args.to c.args.at c.args.count c.requires.may c.requires.order (g.S.Store.storage c.loop-i.store).kept c.loop-i.i before.kept before.places low c.refers_at.result c.refers_at.ensures

pub copy_word-requires-clause-held : goal.copy_word-requires-clause-held
copy_word-requires-clause-held g c =
    let objects = (g.S.Store.storage c.args.store.now).kept in
    let index = (g.S.Store.storage c.args.store.now).index in
    let before = c.loop-i.invariant in
    let low : c.loop-i.i < c.args.count = omega (arith, c.loop-i-test.true) in
    up_held_there objects index (g.S.Store.storage c.loop-i.store).index c.args.shape.now c.args.source c.args.start c.args.to c.args.at c.args.count c.requires.may c.requires.order (g.S.Store.storage c.loop-i.store).kept c.loop-i.i before.kept before.places low c.refers_at.result c.refers_at.ensures

pub copy_word-requires-clause-allowed : goal.copy_word-requires-clause-allowed
copy_word-requires-clause-allowed g c =
    let objects = (g.S.Store.storage c.args.store.now).kept in
    let index = (g.S.Store.storage c.args.store.now).index in
    let before = c.loop-i.invariant in
    let low : c.loop-i.i < c.args.count = omega (arith, c.loop-i-test.true) in
    up_may_there objects index (g.S.Store.storage c.loop-i.store).index c.args.shape.now c.args.source c.args.start c.args.to c.args.at c.args.count c.requires.may c.requires.order (g.S.Store.storage c.loop-i.store).kept c.loop-i.i before.kept before.places low c.refers_at.result c.refers_at.ensures
    (g.S.Store.storage c.args.store.now).settings.allows (g.S.Store.storage c.loop-i.store).settings.allows (same_allows before.settings) c.requires.follows

pub copy_word-requires-clause-put : goal.copy_word-requires-clause-put
copy_word-requires-clause-put g c =
    let objects = (g.S.Store.storage c.args.store.now).kept in
    let index = (g.S.Store.storage c.args.store.now).index in
    let before = c.loop-i.invariant in
    let low : c.loop-i.i < c.args.count = omega (arith, c.loop-i-test.true) in
    up_put_there objects index (g.S.Store.storage c.loop-i.store).index c.args.shape.now c.args.source c.args.start c.args.to c.args.at c.args.count c.requires.may c.requires.order (g.S.Store.storage c.loop-i.store).kept c.loop-i.i before.kept before.places low c.refers_at.result c.refers_at.ensures

pub loop-i-preserved : goal.loop-i-preserved
loop-i-preserved g c =
    let objects = (g.S.Store.storage c.args.store.now).kept in
    let index = (g.S.Store.storage c.args.store.now).index in
    let before = c.loop-i.invariant in
    let low : c.loop-i.i < c.args.count = omega (arith, c.loop-i-test.true) in
    record {
      kept = up_copied_there objects index (g.S.Store.storage c.loop-i.store).index c.args.shape.now c.args.source c.args.start c.args.to c.args.at c.args.count c.requires.may c.requires.order (g.S.Store.storage c.loop-i.store).kept c.loop-i.i before.kept before.places low c.refers_at.result c.refers_at.ensures (g.S.Store.storage c.copy_word.new.store).kept c.copy_word.ensures.kept;
      places = c.copy_word.ensures.places ∙ before.places;
      facts = c.copy_word.ensures.facts ∙ before.facts;
      granted = c.copy_word.ensures.granted ∙ before.granted;
      faults = c.copy_word.ensures.faults ∙ before.faults;
      settings = c.copy_word.ensures.settings ∙ before.settings;
    }
