use Rattle.cb_natives.proofs.Units.{kept_so}
use Rattle.cb_natives.proofs.reading.count.Goals as goal

pub length-requires : goal.length-requires
length-requires g c = kept_so (g.S.Store.storage c.args.store.now).kept (g.S.Store.storage c.args.store.now).index c.args.array c.if-array-eq0.false c.requires.held
