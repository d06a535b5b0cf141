use Rattle.cb_heap.proofs.Laws.{same_allows}
use Rattle.std.proofs.Common.{◌∙◌, ap, IsTrue, ℕ}
use Rattle.cb_heap.specs.Kept.{is_held}
use Rattle.cb_heap.specs.Reading.{serial_of}
use Rattle.cb_machine.specs.Machine.{kind_of_site}
use Rattle.cb_machine.specs.Plans.{object_of}
use Rattle.cb_plain.specs.State.{Object}
use Rattle.cb_natives.specs.MakingOwn.{roomy}
use Rattle.cb_natives.specs.Pieces.{text_units}
use Rattle.cb_natives.proofs.OwnLaws.{held_so}
use Rattle.cb_natives.proofs.OwnPlacing.{array_held, may_refer, own_kept, referred, refers_there}
use Rattle.cb_natives.proofs.own_placing.refer.Goals as goal

pub put_ref-requires-clause-there : goal.put_ref-requires-clause-there
put_ref-requires-clause-there g c =
    let objects = (g.S.Store.storage c.args.store.now).kept in
    let index = (g.S.Store.storage c.args.store.now).index in
    let array : Object = object_of c.args.site (kind_of_site c.args.program.now c.args.site) (roomy (text_units c.args.program.now objects index c.args.text.now) c.args.room) in
    let after = (g.S.Store.storage c.place_chars-array.new.store).index in
    let held : IsTrue (is_held objects (serial_of index c.args.at)) =
    held_so objects (serial_of index c.args.at) (own_kept objects array (serial_of index c.args.at) c.requires.may.refers (g.S.Store.storage c.place_chars-array.new.store).kept c.place_chars-array.ensures.kept) in
    refers_there objects array (serial_of index c.args.at) c.requires.may.refers (g.S.Store.storage c.place_chars-array.new.store).kept c.place_chars-array.ensures.kept
    (serial_of after c.args.at) (c.place_chars-array.ensures.places c.args.at held) (serial_of after c.place_chars-array.result) c.place_chars-array.ensures.serial

pub put_ref-requires-clause-held : goal.put_ref-requires-clause-held
put_ref-requires-clause-held g c =
    let objects = (g.S.Store.storage c.args.store.now).kept in
    let index = (g.S.Store.storage c.args.store.now).index in
    let array : Object = object_of c.args.site (kind_of_site c.args.program.now c.args.site) (roomy (text_units c.args.program.now objects index c.args.text.now) c.args.room) in
    let after = (g.S.Store.storage c.place_chars-array.new.store).index in
    let held : IsTrue (is_held objects (serial_of index c.args.at)) =
    held_so objects (serial_of index c.args.at) (own_kept objects array (serial_of index c.args.at) c.requires.may.refers (g.S.Store.storage c.place_chars-array.new.store).kept c.place_chars-array.ensures.kept) in
    array_held objects array (serial_of index c.args.at) c.requires.may.refers (g.S.Store.storage c.place_chars-array.new.store).kept c.place_chars-array.ensures.kept
    (serial_of after c.args.at) (c.place_chars-array.ensures.places c.args.at held) (serial_of after c.place_chars-array.result) c.place_chars-array.ensures.serial

pub put_ref-requires-clause-allowed : goal.put_ref-requires-clause-allowed
put_ref-requires-clause-allowed g c =
    let objects = (g.S.Store.storage c.args.store.now).kept in
    let index = (g.S.Store.storage c.args.store.now).index in
    let array : Object = object_of c.args.site (kind_of_site c.args.program.now c.args.site) (roomy (text_units c.args.program.now objects index c.args.text.now) c.args.room) in
    let after = (g.S.Store.storage c.place_chars-array.new.store).index in
    let held : IsTrue (is_held objects (serial_of index c.args.at)) =
    held_so objects (serial_of index c.args.at) (own_kept objects array (serial_of index c.args.at) c.requires.may.refers (g.S.Store.storage c.place_chars-array.new.store).kept c.place_chars-array.ensures.kept) in
    may_refer objects array (serial_of index c.args.at) c.requires.may.refers (g.S.Store.storage c.place_chars-array.new.store).kept c.place_chars-array.ensures.kept
    (serial_of after c.args.at) (c.place_chars-array.ensures.places c.args.at held) (serial_of after c.place_chars-array.result) c.place_chars-array.ensures.serial
    (g.S.Store.storage c.args.store.now).settings.allows (g.S.Store.storage c.place_chars-array.new.store).settings.allows (same_allows c.place_chars-array.ensures.settings) c.requires.follows

pub returns-clause-kept : goal.returns-clause-kept
returns-clause-kept g c =
    let objects = (g.S.Store.storage c.args.store.now).kept in
    let index = (g.S.Store.storage c.args.store.now).index in
    let array : Object = object_of c.args.site (kind_of_site c.args.program.now c.args.site) (roomy (text_units c.args.program.now objects index c.args.text.now) c.args.room) in
    let after = (g.S.Store.storage c.place_chars-array.new.store).index in
    let held : IsTrue (is_held objects (serial_of index c.args.at)) =
    held_so objects (serial_of index c.args.at) (own_kept objects array (serial_of index c.args.at) c.requires.may.refers (g.S.Store.storage c.place_chars-array.new.store).kept c.place_chars-array.ensures.kept) in
    c.put_ref.ensures.kept
    ∙ referred objects array (serial_of index c.args.at) c.requires.may.refers (g.S.Store.storage c.place_chars-array.new.store).kept c.place_chars-array.ensures.kept
    (serial_of after c.args.at) (c.place_chars-array.ensures.places c.args.at held) (serial_of after c.place_chars-array.result) c.place_chars-array.ensures.serial

pub returns-clause-places : goal.returns-clause-places
returns-clause-places g c = λ place held. ap (λ (index : ℕ → ℕ). serial_of index place) c.put_ref.ensures.places ∙ c.place_chars-array.ensures.places place held
