use Rattle.cb_interp.proofs.TurnsBegun.{begun_turn, deep_turn}
use Rattle.cb_interp.proofs.beginning.begin_turn.Goals as goal

pub returns-clause-made : goal.returns-clause-made
returns-clause-made g c =
    begun_turn c.args.program.now (g.S.Store.storage c.args.store.now).index (g.S.Store.storage c.args.store.now).kept c.args.roots.now g.outside c.args.class g.S.Store.rules
    (g.S.Store.storage c.args.store.now).facts c.begin_init.result c.begin_init.new.roots c.requires.1.1.1.1 c.requires.1.0 c.begin_init.ensures.deep c.begin_init.ensures.begun

pub returns-clause-deep : goal.returns-clause-deep
returns-clause-deep g c =
    deep_turn c.args.program.now (g.S.Store.storage c.args.store.now).index (g.S.Store.storage c.args.store.now).kept c.args.roots.now g.outside c.args.class
    c.begin_init.result c.requires.1.1.1.1 c.requires.1.0 c.begin_init.ensures.deep
