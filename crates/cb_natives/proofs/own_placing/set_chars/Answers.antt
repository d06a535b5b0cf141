use Rattle.std.proofs.Common.{◌∙◌, ap, arith, sym}
use Rattle.cb_heap.specs.Reading.{serial_of}
use Rattle.cb_natives.specs.Pieces.{text_units}
use Rattle.cb_natives.proofs.FollowLaws.{follows_one}
use Rattle.cb_natives.proofs.OwnChanging.{room_asked, roomy_size}
use Rattle.cb_natives.proofs.own_placing.set_chars.Goals as goal

pub refer-requires-clause-granted : goal.refer-requires-clause-granted
refer-requires-clause-granted g c = room_asked (g.S.Store.storage c.args.store.now).granted 9 c.args.size c.requires.may.few c.requires.room.granted

pub refer-requires-clause-shape : goal.refer-requires-clause-shape
refer-requires-clause-shape g c = c.requires.shaped.characters

pub refer-requires-clause-site : goal.refer-requires-clause-site
refer-requires-clause-site g c = let sites = c.requires.shaped.sites in omega (arith, sites)

pub refer-requires-clause-serials : goal.refer-requires-clause-serials
refer-requires-clause-serials g c = let serials = c.requires.room.serials in omega (arith, serials)

pub refer-requires-clause-follows : goal.refer-requires-clause-follows
refer-requires-clause-follows g c =
    follows_one (g.S.Store.storage c.args.store.now).settings.allows _ (serial_of (g.S.Store.storage c.args.store.now).index c.args.at) c.requires.follows

pub returns-clause-kept : goal.returns-clause-kept
returns-clause-kept g c = c.refer.ensures.kept

pub returns-clause-facts : goal.returns-clause-facts
returns-clause-facts g c =
    c.refer.ensures.facts
    ∙ ap (g.S.Store.rules.placed (g.S.Store.storage c.args.store.now).facts 9)
    (sym (roomy_size (text_units c.args.program.now (g.S.Store.storage c.args.store.now).kept (g.S.Store.storage c.args.store.now).index c.args.text.now) c.args.size c.requires.may.fits))
