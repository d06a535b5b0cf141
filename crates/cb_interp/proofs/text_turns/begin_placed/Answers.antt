use Rattle.std.proofs.Common.{◌∙◌, ap, rules, subst, sym}
use Rattle.cb_heap.specs.Follows.{Follows}
use Rattle.cb_machine.specs.Plans.{Plan, made}
use Rattle.cb_act.specs.Turning.{facts_behind}
use Rattle.cb_interp.proofs.TurnsTextBegun.{begun_left}
use Rattle.cb_interp.proofs.text_turns.begin_placed.Goals as goal

pub place_own-requires : goal.place_own-requires
place_own-requires g c κs lives = (
  lives,
  (
    c.requires.1.1.1.0,
    (
      c.requires.1.1.1.1.0,
      (
        subst (λ (own : Plan). Follows (g.S.Store.storage c.args.store.now).settings.allows (made own).objects)
            (sym (begun_left c.args.program.now (g.S.Store.storage c.args.store.now).index (g.S.Store.storage c.args.store.now).kept g.outside c.args.class c.args.roots.now c.enter_init.new.self c.set_state.new.self
            c.enter_init.result c.enter_init.ensures.deep c.enter_init.ensures.entered c.requires.1.1.0 c.set_state.ensures))
            c.requires.1.1.1.1.1.0,
        (search rules, (search rules, (search rules, (search rules, search rules)))),
      ),
    ),
  ),
)

pub returns-clause-begun : goal.returns-clause-begun
returns-clause-begun g c =
    c.place_own.ensures.made
    ∙ ap made (begun_left c.args.program.now (g.S.Store.storage c.args.store.now).index (g.S.Store.storage c.args.store.now).kept g.outside c.args.class c.args.roots.now c.enter_init.new.self c.set_state.new.self
    c.enter_init.result c.enter_init.ensures.deep c.enter_init.ensures.entered c.requires.1.1.0 c.set_state.ensures)

pub returns-clause-facts : goal.returns-clause-facts
returns-clause-facts g c =
    c.place_own.ensures.facts
    ∙ ap (λ (plan : Plan). facts_behind g.S.Store.rules (g.S.Store.storage c.args.store.now).facts plan.placed)
    (begun_left c.args.program.now (g.S.Store.storage c.args.store.now).index (g.S.Store.storage c.args.store.now).kept g.outside c.args.class c.args.roots.now c.enter_init.new.self c.set_state.new.self
    c.enter_init.result c.enter_init.ensures.deep c.enter_init.ensures.entered c.requires.1.1.0 c.set_state.ensures)
