use Rattle.std.proofs.Common.{◌<◌, ◌^◌, arith}
use Rattle.cb_heap.specs.Shaped.{new_object}
use Rattle.cb_machine.specs.Sites.{made_characters}
use Rattle.cb_plain.specs.State.{Object}
use Rattle.cb_natives.proofs.Filling.{can_fill, filled_so}
use Rattle.cb_natives.proofs.Placed.{array_blank}
use Rattle.cb_natives.proofs.placing_texts.place_array.Goals as goal

pub write_text-requires-clause-there : goal.write_text-requires-clause-there
write_text-requires-clause-there g c =
    let program = c.args.program.now in
    let objects = (g.S.Store.storage c.args.store.now).kept in
    let index = (g.S.Store.storage c.args.store.now).index in
    let after = (g.S.Store.storage c.place-array.new.self).index in
    let now = (g.S.Store.storage c.place-array.new.self).kept in
    let size = c.text_size-size.result in
    let one : Object = new_object (g.S.Store.storage c.args.store.now).settings.shapes made_characters c.args.kind size in
    let blank = array_blank (g.S.Store.storage c.args.store.now).settings.shapes made_characters c.args.kind size c.requires.shape in
    let few : size < 2 ^ 31 = omega (arith, c.text_size-size.ensures, c.requires.few) in
    (can_fill program objects one index after c.place-array.ensures.places c.args.text.now c.requires.text size blank c.text_size-size.ensures few now c.place-array.ensures.kept c.place-array.result c.place-array.ensures.serial).target.there

pub write_text-requires-clause-numbers : goal.write_text-requires-clause-numbers
write_text-requires-clause-numbers g c =
    let program = c.args.program.now in
    let objects = (g.S.Store.storage c.args.store.now).kept in
    let index = (g.S.Store.storage c.args.store.now).index in
    let after = (g.S.Store.storage c.place-array.new.self).index in
    let now = (g.S.Store.storage c.place-array.new.self).kept in
    let size = c.text_size-size.result in
    let one : Object = new_object (g.S.Store.storage c.args.store.now).settings.shapes made_characters c.args.kind size in
    let blank = array_blank (g.S.Store.storage c.args.store.now).settings.shapes made_characters c.args.kind size c.requires.shape in
    let few : size < 2 ^ 31 = omega (arith, c.text_size-size.ensures, c.requires.few) in
    (can_fill program objects one index after c.place-array.ensures.places c.args.text.now c.requires.text size blank c.text_size-size.ensures few now c.place-array.ensures.kept c.place-array.result c.place-array.ensures.serial).target.numbers

pub write_text-requires-clause-text : goal.write_text-requires-clause-text
write_text-requires-clause-text g c =
    let program = c.args.program.now in
    let objects = (g.S.Store.storage c.args.store.now).kept in
    let index = (g.S.Store.storage c.args.store.now).index in
    let after = (g.S.Store.storage c.place-array.new.self).index in
    let now = (g.S.Store.storage c.place-array.new.self).kept in
    let size = c.text_size-size.result in
    let one : Object = new_object (g.S.Store.storage c.args.store.now).settings.shapes made_characters c.args.kind size in
    let blank = array_blank (g.S.Store.storage c.args.store.now).settings.shapes made_characters c.args.kind size c.requires.shape in
    let few : size < 2 ^ 31 = omega (arith, c.text_size-size.ensures, c.requires.few) in
    (can_fill program objects one index after c.place-array.ensures.places c.args.text.now c.requires.text size blank c.text_size-size.ensures few now c.place-array.ensures.kept c.place-array.result c.place-array.ensures.serial).is

pub write_text-requires-clause-apart : goal.write_text-requires-clause-apart
write_text-requires-clause-apart g c =
    let program = c.args.program.now in
    let objects = (g.S.Store.storage c.args.store.now).kept in
    let index = (g.S.Store.storage c.args.store.now).index in
    let after = (g.S.Store.storage c.place-array.new.self).index in
    let now = (g.S.Store.storage c.place-array.new.self).kept in
    let size = c.text_size-size.result in
    let one : Object = new_object (g.S.Store.storage c.args.store.now).settings.shapes made_characters c.args.kind size in
    let blank = array_blank (g.S.Store.storage c.args.store.now).settings.shapes made_characters c.args.kind size c.requires.shape in
    let few : size < 2 ^ 31 = omega (arith, c.text_size-size.ensures, c.requires.few) in
    (can_fill program objects one index after c.place-array.ensures.places c.args.text.now c.requires.text size blank c.text_size-size.ensures few now c.place-array.ensures.kept c.place-array.result c.place-array.ensures.serial).apart

pub write_text-requires-clause-room : goal.write_text-requires-clause-room
write_text-requires-clause-room g c =
    let program = c.args.program.now in
    let objects = (g.S.Store.storage c.args.store.now).kept in
    let index = (g.S.Store.storage c.args.store.now).index in
    let after = (g.S.Store.storage c.place-array.new.self).index in
    let now = (g.S.Store.storage c.place-array.new.self).kept in
    let size = c.text_size-size.result in
    let one : Object = new_object (g.S.Store.storage c.args.store.now).settings.shapes made_characters c.args.kind size in
    let blank = array_blank (g.S.Store.storage c.args.store.now).settings.shapes made_characters c.args.kind size c.requires.shape in
    let few : size < 2 ^ 31 = omega (arith, c.text_size-size.ensures, c.requires.few) in
    (can_fill program objects one index after c.place-array.ensures.places c.args.text.now c.requires.text size blank c.text_size-size.ensures few now c.place-array.ensures.kept c.place-array.result c.place-array.ensures.serial).room

pub write_text-requires-clause-few : goal.write_text-requires-clause-few
write_text-requires-clause-few g c =
    let program = c.args.program.now in
    let objects = (g.S.Store.storage c.args.store.now).kept in
    let index = (g.S.Store.storage c.args.store.now).index in
    let after = (g.S.Store.storage c.place-array.new.self).index in
    let now = (g.S.Store.storage c.place-array.new.self).kept in
    let size = c.text_size-size.result in
    let one : Object = new_object (g.S.Store.storage c.args.store.now).settings.shapes made_characters c.args.kind size in
    let blank = array_blank (g.S.Store.storage c.args.store.now).settings.shapes made_characters c.args.kind size c.requires.shape in
    let few : size < 2 ^ 31 = omega (arith, c.text_size-size.ensures, c.requires.few) in
    (can_fill program objects one index after c.place-array.ensures.places c.args.text.now c.requires.text size blank c.text_size-size.ensures few now c.place-array.ensures.kept c.place-array.result c.place-array.ensures.serial).target.few

pub returns-clause-kept : goal.returns-clause-kept
returns-clause-kept g c =
    let program = c.args.program.now in
    let objects = (g.S.Store.storage c.args.store.now).kept in
    let index = (g.S.Store.storage c.args.store.now).index in
    let after = (g.S.Store.storage c.place-array.new.self).index in
    let now = (g.S.Store.storage c.place-array.new.self).kept in
    let size = c.text_size-size.result in
    let one : Object = new_object (g.S.Store.storage c.args.store.now).settings.shapes made_characters c.args.kind size in
    let blank = array_blank (g.S.Store.storage c.args.store.now).settings.shapes made_characters c.args.kind size c.requires.shape in
    let few : size < 2 ^ 31 = omega (arith, c.text_size-size.ensures, c.requires.few) in
    filled_so program objects one index after c.place-array.ensures.places c.args.text.now c.requires.text size blank c.text_size-size.ensures few now c.place-array.ensures.kept c.place-array.result c.place-array.ensures.serial (g.S.Store.storage c.write_text.new.store).kept c.write_text.ensures.kept
