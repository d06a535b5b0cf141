use Rattle.cb_natives.proofs.OwnNatives.{build_decided, serial_not}
use Rattle.cb_natives.proofs.own_building.build.Goals as goal

pub returns : goal.returns
returns g c =
    let index = (g.S.Store.storage c.args.store.now).index in
    build_decided c.args.program.now (g.S.Store.storage c.args.store.now).kept index c.args.at c.args.text.now c.args.count c.args.room
    (c.requires.own.there (serial_not index c.args.at c.if-at-eq0.false)) c.requires.text c.requires.count c.requires.fits c.requires.few
