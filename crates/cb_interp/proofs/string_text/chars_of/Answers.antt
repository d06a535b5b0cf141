use Rattle.cb_interp.proofs.TurnsNativeString.{chars_so}
use Rattle.cb_interp.proofs.string_text.chars_of.Goals as goal

pub returns : goal.returns
returns g c =
    chars_so (g.S.Store.storage c.args.store.now).index (g.S.Store.storage c.args.store.now).kept c.args.at c.requires.text c.if-at-eq0.false c.get_ref.result c.get_ref.ensures c.requires.units
