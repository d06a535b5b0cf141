use Rattle.std.proofs.Common.{◌≡◌, ◌∙◌, ◌-◌, arith, refl, suc}
use Rattle.cb_heap.proofs.Laws.{same_allows}
use Rattle.cb_heap.specs.Reading.{serial_of}
use Rattle.cb_natives.proofs.CopyLaws.{back_all, back_none, copied_there, held_there, may_there, put_there, read_there}
use Rattle.cb_natives.proofs.copies.copy_words.Goals as goal

pub loop-left-init : goal.loop-left-init
loop-left-init g c =
    let objects = (g.S.Store.storage c.args.store.now).kept in
    let index = (g.S.Store.storage c.args.store.now).index in
    record {
      kept = back_none objects c.args.shape.now (serial_of index c.args.source) c.args.start (serial_of index c.args.to) c.args.at c.args.count c.requires.may;
      low = omega arith;
      places = refl;
      facts = refl;
      granted = refl;
      faults = refl;
      settings = refl;
    }

pub copy_word-requires-clause-read : goal.copy_word-requires-clause-read
copy_word-requires-clause-read g c =
    let objects = (g.S.Store.storage c.args.store.now).kept in
    let index = (g.S.Store.storage c.args.store.now).index in
    let before = c.loop-left.invariant in
    let place = c.loop-left.left - 1 in
    let next : c.loop-left.left ≡ suc place = omega (arith, c.loop-left-test.true) in
    read_there objects index (g.S.Store.storage c.loop-left.store).index c.args.shape.now c.args.source c.args.start c.args.to c.args.at c.args.count c.requires.may c.requires.order (g.S.Store.storage c.loop-left.store).kept c.loop-left.left place before.kept before.places next before.low c.refers_at.result c.refers_at.ensures

pub copy_word-requires-clause-held : goal.copy_word-requires-clause-held
copy_word-requires-clause-held g c =
    let objects = (g.S.Store.storage c.args.store.now).kept in
    let index = (g.S.Store.storage c.args.store.now).index in
    let before = c.loop-left.invariant in
    let place = c.loop-left.left - 1 in
    let next : c.loop-left.left ≡ suc place = omega (arith, c.loop-left-test.true) in
    held_there objects index (g.S.Store.storage c.loop-left.store).index c.args.shape.now c.args.source c.args.start c.args.to c.args.at c.args.count c.requires.may c.requires.order (g.S.Store.storage c.loop-left.store).kept c.loop-left.left place before.kept before.places next before.low c.refers_at.result c.refers_at.ensures

pub copy_word-requires-clause-allowed : goal.copy_word-requires-clause-allowed
copy_word-requires-clause-allowed g c =
    let objects = (g.S.Store.storage c.args.store.now).kept in
    let index = (g.S.Store.storage c.args.store.now).index in
    let before = c.loop-left.invariant in
    let place = c.loop-left.left - 1 in
    let next : c.loop-left.left ≡ suc place = omega (arith, c.loop-left-test.true) in
    may_there objects index (g.S.Store.storage c.loop-left.store).index c.args.shape.now c.args.source c.args.start c.args.to c.args.at c.args.count c.requires.may c.requires.order (g.S.Store.storage c.loop-left.store).kept c.loop-left.left place before.kept before.places next before.low c.refers_at.result c.refers_at.ensures
    (g.S.Store.storage c.args.store.now).settings.allows (g.S.Store.storage c.loop-left.store).settings.allows (same_allows before.settings) c.requires.follows

pub copy_word-requires-clause-put : goal.copy_word-requires-clause-put
copy_word-requires-clause-put g c =
    let objects = (g.S.Store.storage c.args.store.now).kept in
    let index = (g.S.Store.storage c.args.store.now).index in
    let before = c.loop-left.invariant in
    let place = c.loop-left.left - 1 in
    let next : c.loop-left.left ≡ suc place = omega (arith, c.loop-left-test.true) in
    put_there objects index (g.S.Store.storage c.loop-left.store).index c.args.shape.now c.args.source c.args.start c.args.to c.args.at c.args.count c.requires.may c.requires.order (g.S.Store.storage c.loop-left.store).kept c.loop-left.left place before.kept before.places next before.low c.refers_at.result c.refers_at.ensures

pub loop-left-preserved : goal.loop-left-preserved
loop-left-preserved g c =
    let objects = (g.S.Store.storage c.args.store.now).kept in
    let index = (g.S.Store.storage c.args.store.now).index in
    let before = c.loop-left.invariant in
    let place = c.loop-left.left - 1 in
    let next : c.loop-left.left ≡ suc place = omega (arith, c.loop-left-test.true) in
    record {
      kept = copied_there objects index (g.S.Store.storage c.loop-left.store).index c.args.shape.now c.args.source c.args.start c.args.to c.args.at c.args.count c.requires.may c.requires.order (g.S.Store.storage c.loop-left.store).kept c.loop-left.left place before.kept before.places next before.low c.refers_at.result c.refers_at.ensures (g.S.Store.storage c.copy_word.new.store).kept c.copy_word.ensures.kept;
      low = omega (arith, before.low);
      places = c.copy_word.ensures.places ∙ before.places;
      facts = c.copy_word.ensures.facts ∙ before.facts;
      granted = c.copy_word.ensures.granted ∙ before.granted;
      faults = c.copy_word.ensures.faults ∙ before.faults;
      settings = c.copy_word.ensures.settings ∙ before.settings;
    }

pub returns-clause-kept : goal.returns-clause-kept
returns-clause-kept g c =
    let objects = (g.S.Store.storage c.args.store.now).kept in
    let index = (g.S.Store.storage c.args.store.now).index in
    let none : c.loop-left.left ≡ 0 = omega (arith, c.loop-left-test.false) in
    back_all objects c.args.shape.now (serial_of index c.args.source) c.args.start (serial_of index c.args.to) c.args.at c.args.count c.requires.may (g.S.Store.storage c.loop-left.store).kept c.loop-left.left c.loop-left.invariant.kept none
