use Rattle.cb_interp.proofs.TurnsInitial.{deep_keeps, deep_throws, initial_turn}
use Rattle.cb_interp.proofs.init_turns.init_turn.Goals as goal

pub returns-clause-made : goal.returns-clause-made
returns-clause-made g c =
    initial_turn c.args.program.now (g.S.Store.storage c.args.store.now).index (g.S.Store.storage c.args.store.now).kept c.args.roots.now g.outside c.init_step-step.result c.init_step-step.new.roots
    c.requires.1.0 c.requires.1.1.1.1.1.1.0 c.init_step-step.ensures.behind g.S.Store.rules (g.S.Store.storage c.args.store.now).facts c.room_of.result c.room_of.ensures c.requires.1.1.1.0

pub returns-clause-deep : goal.returns-clause-deep
returns-clause-deep g c =
    deep_throws c.args.program.now (g.S.Store.storage c.args.store.now).index (g.S.Store.storage c.args.store.now).kept c.args.roots.now g.outside c.init_step-step.result c.init_step-step.new.roots
    c.requires.1.0 c.requires.1.1.1.1.1.1.0 c.init_step-step.ensures.behind c.room_of.result c.room_of.ensures

pub returns-clause-same : goal.returns-clause-same
returns-clause-same g c =
    deep_keeps c.args.program.now (g.S.Store.storage c.args.store.now).index (g.S.Store.storage c.args.store.now).kept c.args.roots.now g.outside c.init_step-step.result c.init_step-step.new.roots
    c.requires.1.0 c.requires.1.1.1.1.1.1.0 c.init_step-step.ensures.behind c.room_of.result c.room_of.ensures c.init_step-step.ensures.limit
