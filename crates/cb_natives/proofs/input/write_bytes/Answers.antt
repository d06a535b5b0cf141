use Rattle.std.proofs.Common.{◌≡◌, ◌∙◌, ◌-◌, arith, refl, suc}
use Rattle.cb_heap.specs.Reading.{serial_of}
use Rattle.cb_natives.proofs.Inputs.{back_all, back_none, number_there, written_there}
use Rattle.cb_natives.proofs.input.write_bytes.Goals as goal

pub loop-left-init : goal.loop-left-init
loop-left-init g c =
    let objects = (g.S.Store.storage c.args.store.now).kept in
    let array = serial_of (g.S.Store.storage c.args.store.now).index c.args.at in
    record {
      kept = back_none objects array c.args.from c.args.bytes.now _ refl;
      low = omega arith;
      places = refl;
      facts = refl;
      granted = refl;
      faults = refl;
      settings = refl;
    }

pub put-requires : goal.put-requires
put-requires g c =
    let objects = (g.S.Store.storage c.args.store.now).kept in
    let index = (g.S.Store.storage c.args.store.now).index in
    let before = c.loop-left.invariant in
    let place = c.loop-left.left - 1 in
    let next : c.loop-left.left ≡ suc place = omega (arith, c.loop-left-test.true) in
    number_there objects (g.S.Store.storage c.loop-left.store).kept index (g.S.Store.storage c.loop-left.store).index c.args.at c.args.from c.args.bytes.now c.loop-left.left place c.requires.holds c.requires.within before.kept before.places next before.low

pub loop-left-preserved : goal.loop-left-preserved
loop-left-preserved g c =
    let objects = (g.S.Store.storage c.args.store.now).kept in
    let index = (g.S.Store.storage c.args.store.now).index in
    let before = c.loop-left.invariant in
    let place = c.loop-left.left - 1 in
    let next : c.loop-left.left ≡ suc place = omega (arith, c.loop-left-test.true) in
    record {
      kept = written_there objects (g.S.Store.storage c.loop-left.store).kept index (g.S.Store.storage c.loop-left.store).index c.args.at c.args.from c.args.bytes.now c.loop-left.left place c.requires.holds c.requires.within before.kept before.places next before.low
          (g.S.Store.storage c.put.new.self).kept _ c.word_of_byte.ensures c.put.ensures.kept;
      low = omega (arith, before.low);
      places = c.put.ensures.places ∙ before.places;
      facts = c.put.ensures.facts ∙ before.facts;
      granted = c.put.ensures.granted ∙ before.granted;
      faults = c.put.ensures.faults ∙ before.faults;
      settings = c.put.ensures.settings ∙ before.settings;
    }

pub returns-clause-kept : goal.returns-clause-kept
returns-clause-kept g c =
    let objects = (g.S.Store.storage c.args.store.now).kept in
    let index = (g.S.Store.storage c.args.store.now).index in
    back_all objects (g.S.Store.storage c.loop-left.store).kept (serial_of index c.args.at) c.args.from c.args.bytes.now c.loop-left.left c.loop-left.invariant.kept (omega (arith, c.loop-left-test.false))
