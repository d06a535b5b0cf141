use Rattle.std.proofs.Common.{rules, ◌∙◌, ap, arith, refl, Some}
use Rattle.cb_interp.proofs.TurnsEntered.{begins, fails}
use Rattle.cb_interp.proofs.entry_turns.starts_main.Goals as goal

pub state-requires : goal.state-requires
state-requires g c = omega (arith, c.main_class-class.ensures.within, c.requires.1.0.typed.roots.classes)

pub begins_class-requires : goal.begins_class-requires
begins_class-requires g c κs within = (
  search rules,
  (
    c.requires.1.0,
    (
      begins c.args.program.now (g.S.Store.storage c.args.store.now).index (g.S.Store.storage c.args.store.now).kept c.args.roots.now.roots g.outside c.requires.1.1.0 c.requires.1.1.1.0 c.requires.1.1.1.1 c.args.roots.now.limit c.main_class-class.result c.main_class-class.ensures.main
          (c.state.ensures ∙ ap Some c.in-Untouched.is),
      c.main_class-class.ensures.within,
    ),
  ),
)

pub throws_at-requires : goal.throws_at-requires
throws_at-requires g c κs within = (
  search rules,
  (
    c.requires.1.0,
    (
      fails c.args.program.now (g.S.Store.storage c.args.store.now).index (g.S.Store.storage c.args.store.now).kept c.args.roots.now.roots g.outside c.requires.1.1.0 c.requires.1.1.1.0 c.requires.1.1.1.1 c.args.roots.now.limit c.main_class-class.result c.main_class-class.ensures.main
          (c.state.ensures ∙ ap Some c.in-Failed.is),
      (8, omega arith, refl),
    ),
  ),
)
