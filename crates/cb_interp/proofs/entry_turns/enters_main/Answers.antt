use Rattle.std.proofs.Common.{rules}
use Rattle.cb_interp.proofs.TurnsEntered.{body_so, enters, main_coded, main_fits}
use Rattle.cb_interp.proofs.entry_turns.enters_main.Goals as goal

pub enters_first-requires : goal.enters_first-requires
enters_first-requires g c κs within =
    let own = body_so c.args.program.now c.main_method-method.result c.method.result.now c.in-Some.body c.method.ensures c.in-Some.is in (
      search rules,
      (
        c.requires.1.0,
        (
          c.requires.1.1.1.0,
          (
            enters c.args.program.now (g.S.Store.storage c.args.store.now).index (g.S.Store.storage c.args.store.now).kept c.args.roots.now.roots g.outside c.requires.1.1.0 c.requires.1.1.1.0 c.requires.1.1.1.1.0 c.requires.1.1.1.1.1 c.main_method-method.result c.main_method-method.ensures.begins
                c.in-Some.body own c.args.roots.now.limit,
            main_fits c.args.program.now (g.S.Store.storage c.args.store.now).index (g.S.Store.storage c.args.store.now).kept c.args.roots.now.roots g.outside c.requires.1.1.0 c.requires.1.1.1.0 c.requires.1.1.1.1.0 c.requires.1.1.1.1.1 c.main_method-method.result c.main_method-method.ensures.begins
                c.in-Some.body own c.requires.1.0.linked c.requires.1.0.fits c.requires.1.0.typed,
          ),
        ),
      ),
    )

pub unreachable-requires : goal.unreachable-requires
unreachable-requires g c =
    main_coded c.args.program.now (g.S.Store.storage c.args.store.now).index (g.S.Store.storage c.args.store.now).kept c.args.roots.now.roots g.outside c.requires.1.1.0 c.requires.1.1.1.0
    c.requires.1.1.1.1.0 c.requires.1.1.1.1.1 c.args.roots.now.limit c.main_method-method.result c.main_method-method.ensures.begins c.method.result.now c.method.ensures c.in-None.is
    c.requires.1.0.linked c.requires.1.0.fits c.requires.1.0.typed
