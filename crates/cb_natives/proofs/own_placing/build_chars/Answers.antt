use Rattle.std.proofs.Common.{◌∙◌, ◌+◌, ap, arith, length, sym, ℕ}
use Rattle.cb_heap.specs.Reading.{serial_of}
use Rattle.cb_machine.specs.Machine.{kind_of_site}
use Rattle.cb_machine.specs.Plans.{object_of}
use Rattle.cb_plain.specs.State.{Object}
use Rattle.cb_natives.specs.MakingOwn.{roomy}
use Rattle.cb_natives.specs.Pieces.{text_units}
use Rattle.cb_natives.proofs.OwnChanging.{room_asked, roomy_size}
use Rattle.cb_natives.proofs.OwnLaws.{held_so, reference_kept, there_kept}
use Rattle.cb_natives.proofs.OwnPlacing.{counted_there, counts_there, follows_counting}
use Rattle.cb_natives.proofs.own_placing.build_chars.Goals as goal

pub refer-requires-clause-granted : goal.refer-requires-clause-granted
refer-requires-clause-granted g c = room_asked (g.S.Store.storage c.args.store.now).granted 10 c.args.room c.requires.may.0.few c.requires.room.granted

pub refer-requires-clause-may : goal.refer-requires-clause-may
refer-requires-clause-may g c = c.requires.may.0

pub refer-requires-clause-shape : goal.refer-requires-clause-shape
refer-requires-clause-shape g c = c.requires.shaped.builders

pub refer-requires-clause-site : goal.refer-requires-clause-site
refer-requires-clause-site g c = let sites = c.requires.shaped.sites in omega (arith, sites)

pub refer-requires-clause-serials : goal.refer-requires-clause-serials
refer-requires-clause-serials g c = let serials = c.requires.room.serials in omega (arith, serials)

pub refer-requires-clause-follows : goal.refer-requires-clause-follows
refer-requires-clause-follows g c =
    let objects = (g.S.Store.storage c.args.store.now).kept in
    let index = (g.S.Store.storage c.args.store.now).index in
    let serial = serial_of index c.args.at in
    let array : Object = object_of 10 (kind_of_site c.args.program.now 10) (roomy (text_units c.args.program.now objects index c.args.text.now) c.args.room) in
    let kept = there_kept objects serial (reference_kept objects serial 0 c.requires.may.0.refers).0 (reference_kept objects serial 0 c.requires.may.0.refers).1 in
    follows_counting objects array serial (length objects + 1) c.requires.may.1 kept (g.S.Store.storage c.args.store.now).settings.allows c.args.count c.requires.follows

pub put_count-requires : goal.put_count-requires
put_count-requires g c =
    let objects = (g.S.Store.storage c.args.store.now).kept in
    let index = (g.S.Store.storage c.args.store.now).index in
    let serial = serial_of index c.args.at in
    let array : Object = object_of 10 (kind_of_site c.args.program.now 10) (roomy (text_units c.args.program.now objects index c.args.text.now) c.args.room) in
    let after = (g.S.Store.storage c.refer.new.store).index in
    let kept = there_kept objects serial (reference_kept objects serial 0 c.requires.may.0.refers).0 (reference_kept objects serial 0 c.requires.may.0.refers).1 in
    counts_there objects array serial (length objects + 1) c.requires.may.1 kept (g.S.Store.storage c.refer.new.store).kept c.refer.ensures.kept
    (serial_of after c.args.at) (c.refer.ensures.places c.args.at (held_so objects serial kept))

pub returns-clause-kept : goal.returns-clause-kept
returns-clause-kept g c =
    let objects = (g.S.Store.storage c.args.store.now).kept in
    let index = (g.S.Store.storage c.args.store.now).index in
    let serial = serial_of index c.args.at in
    let array : Object = object_of 10 (kind_of_site c.args.program.now 10) (roomy (text_units c.args.program.now objects index c.args.text.now) c.args.room) in
    let after = (g.S.Store.storage c.refer.new.store).index in
    let kept = there_kept objects serial (reference_kept objects serial 0 c.requires.may.0.refers).0 (reference_kept objects serial 0 c.requires.may.0.refers).1 in
    c.put_count.ensures.kept
    ∙ counted_there objects array serial (length objects + 1) c.requires.may.1 kept (g.S.Store.storage c.refer.new.store).kept c.refer.ensures.kept
    (serial_of after c.args.at) (c.refer.ensures.places c.args.at (held_so objects serial kept)) c.args.count

pub returns-clause-places : goal.returns-clause-places
returns-clause-places g c = λ place held. ap (λ (index : ℕ → ℕ). serial_of index place) c.put_count.ensures.places ∙ c.refer.ensures.places place held

pub returns-clause-facts : goal.returns-clause-facts
returns-clause-facts g c =
    c.put_count.ensures.facts ∙ c.refer.ensures.facts
    ∙ ap (g.S.Store.rules.placed (g.S.Store.storage c.args.store.now).facts 10)
    (sym (roomy_size (text_units c.args.program.now (g.S.Store.storage c.args.store.now).kept (g.S.Store.storage c.args.store.now).index c.args.text.now) c.args.room c.requires.may.0.fits))
