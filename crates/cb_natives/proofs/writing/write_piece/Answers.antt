use Rattle.std.proofs.Common.{◌≡◌, ◌∙◌, ◌-◌, arith, refl, suc}
use Rattle.cb_heap.specs.Reading.{serial_of}
use Rattle.cb_natives.specs.Pieces.{piece_units}
use Rattle.cb_natives.proofs.Writes.{IsTarget, back_all, back_none, number_there, read_there, written_there}
use Rattle.cb_natives.proofs.writing.write_piece.Goals as goal

pub loop-left-init : goal.loop-left-init
loop-left-init g c =
    let objects = (g.S.Store.storage c.args.store.now).kept in
    let index = (g.S.Store.storage c.args.store.now).index in
    record {
      kept = back_none objects (serial_of index c.args.to) c.args.from (piece_units c.args.program.now objects index c.args.piece.now) c.piece_size-size.result c.piece_size-size.ensures.is;
      low = omega (arith, c.piece_size-size.ensures.is);
      places = refl;
      facts = refl;
      granted = refl;
      faults = refl;
      settings = refl;
    }

pub write_unit-requires-clause-number : goal.write_unit-requires-clause-number
write_unit-requires-clause-number g c =
    let objects = (g.S.Store.storage c.args.store.now).kept in
    let index = (g.S.Store.storage c.args.store.now).index in
    let before = c.loop-left.invariant in
    let place = c.loop-left.left - 1 in
    let next : c.loop-left.left ≡ suc place = omega (arith, c.loop-left-test.true) in
    let target : IsTarget objects (serial_of index c.args.to) = record { there = c.requires.there; numbers = c.requires.numbers; few = c.requires.few } in
    number_there c.args.program.now objects (g.S.Store.storage c.loop-left.store).kept index (g.S.Store.storage c.loop-left.store).index c.args.to c.args.from c.args.piece.now c.loop-left.left place target c.requires.piece c.requires.may c.requires.room before.kept before.places next before.low

pub write_unit-requires-clause-read : goal.write_unit-requires-clause-read
write_unit-requires-clause-read g c =
    let objects = (g.S.Store.storage c.args.store.now).kept in
    let index = (g.S.Store.storage c.args.store.now).index in
    let before = c.loop-left.invariant in
    let place = c.loop-left.left - 1 in
    let next : c.loop-left.left ≡ suc place = omega (arith, c.loop-left-test.true) in
    let target : IsTarget objects (serial_of index c.args.to) = record { there = c.requires.there; numbers = c.requires.numbers; few = c.requires.few } in
    read_there c.args.program.now objects (g.S.Store.storage c.loop-left.store).kept index (g.S.Store.storage c.loop-left.store).index c.args.to c.args.from c.args.piece.now c.loop-left.left place target c.requires.piece c.requires.may c.requires.room before.kept before.places next before.low

pub loop-left-preserved : goal.loop-left-preserved
loop-left-preserved g c =
    let objects = (g.S.Store.storage c.args.store.now).kept in
    let index = (g.S.Store.storage c.args.store.now).index in
    let before = c.loop-left.invariant in
    let place = c.loop-left.left - 1 in
    let next : c.loop-left.left ≡ suc place = omega (arith, c.loop-left-test.true) in
    let target : IsTarget objects (serial_of index c.args.to) = record { there = c.requires.there; numbers = c.requires.numbers; few = c.requires.few } in
    record {
      kept = written_there c.args.program.now objects (g.S.Store.storage c.loop-left.store).kept index (g.S.Store.storage c.loop-left.store).index c.args.to c.args.from c.args.piece.now c.loop-left.left place target c.requires.piece c.requires.may c.requires.room before.kept before.places next before.low (g.S.Store.storage c.write_unit.new.store).kept c.write_unit.ensures.kept;
      low = omega (arith, before.low);
      places = c.write_unit.ensures.places ∙ before.places;
      facts = c.write_unit.ensures.facts ∙ before.facts;
      granted = c.write_unit.ensures.granted ∙ before.granted;
      faults = c.write_unit.ensures.faults ∙ before.faults;
      settings = c.write_unit.ensures.settings ∙ before.settings;
    }

pub returns-clause-kept : goal.returns-clause-kept
returns-clause-kept g c =
    let objects = (g.S.Store.storage c.args.store.now).kept in
    let index = (g.S.Store.storage c.args.store.now).index in
    let none : c.loop-left.left ≡ 0 = omega (arith, c.loop-left-test.false) in
    back_all objects (g.S.Store.storage c.loop-left.store).kept (serial_of index c.args.to) c.args.from (piece_units c.args.program.now objects index c.args.piece.now) c.loop-left.left c.loop-left.invariant.kept none
