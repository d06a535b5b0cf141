use Rattle.std.proofs.Common.{ap}
use Rattle.cb_interp.proofs.TurnsSwitched.{switch_there, switched_turn}
use Rattle.cb_interp.proofs.switch_turns.switch_turn.Goals as goal

pub switch-target-requires : goal.switch-target-requires
switch-target-requires g c =
    switch_there c.args.program.now (g.S.Store.storage c.args.store.now).index (g.S.Store.storage c.args.store.now).kept c.args.roots.now g.outside c.requires.1.0.decoded c.requires.1.0.here c.requires.1.0.switches
    c.args.operand.now c.requires.1.1.0 c.requires.1.1.1

pub returns-clause-made : goal.returns-clause-made
returns-clause-made g c =
    switched_turn c.args.program.now (g.S.Store.storage c.args.store.now).index (g.S.Store.storage c.args.store.now).kept c.args.roots.now g.outside c.requires.1.0.decoded c.requires.1.0.here c.requires.1.0.switches
    c.args.operand.now c.requires.1.1.0 g.S.Store.rules (g.S.Store.storage c.args.store.now).facts c.switch-target.result c.switch-target.new.roots.roots c.set_place.new.self.roots
    c.switch-target.ensures.behind (ap (λ held. held.roots) c.set_place.ensures)
