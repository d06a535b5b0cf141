use Rattle.cb_heap.specs.Storage.{view_in}
use Rattle.std.proofs.Common.{ap}
use Rattle.cb_act.specs.Turning.{machine_of}
use Rattle.cb_interp.proofs.TurnsUnwound.{unwound_turn}
use Rattle.cb_interp.proofs.unwind_turns.unwind_turn.Goals as goal

pub returns-clause-made : goal.returns-clause-made
returns-clause-made g c =
    let before = view_in (g.S.Store.storage c.args.store.now) c.args.roots.now.roots in
    let after = view_in (g.S.Store.storage c.unwind_step.new.store) c.unwind_step.new.roots.roots in
    unwound_turn (machine_of c.args.program.now c.args.roots.now.limit) before after g.outside (g.S.Store.storage c.args.store.now).settings.shapes c.unwind_step.result
    c.requires.1.1.1.0 c.requires.1.1.0 c.unwind_step.ensures.behind g.S.Store.rules (g.S.Store.storage c.args.store.now).facts (g.S.Store.storage c.unwind_step.new.store).facts
    c.requires.1.0 (λ other. ap (λ store. (g.S.Store.storage store).facts) (c.unwind_step.ensures.same other))
