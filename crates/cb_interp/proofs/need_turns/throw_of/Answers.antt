use Rattle.cb_heap.specs.Storage.{view_in}
use Rattle.cb_safety.proofs.Laws.{typed_states_are_closed}
use Rattle.cb_act.specs.Turning.{state_of}
use Rattle.cb_interp.proofs.TurnsNeed.{ends_as}
use Rattle.cb_interp.proofs.need_turns.throw_of.Goals as goal

pub throw_turn-requires : goal.throw_turn-requires
throw_turn-requires g c = λ κs lives.
    let own = c.linked_programs_fit.ensures.placed c.args.program.now (g.S.Store.storage c.args.store.now).settings.shapes c.requires.1.0.linked c.requires.1.0.fits c.requires.1.0.shaped c.args.site c.requires.1.1.0 c.requires.1.1.1.0 in (
      lives,
      (
        c.requires.1.1.1.1,
        (
          own.there,
          (
            own.placed.shaped,
            (
              own.placed.sized,
              (
                c.requires.1.0.sites c.args.site own.there,
                (
                  c.requires.1.0.few,
                  typed_states_are_closed c.args.program.now (state_of (view_in (g.S.Store.storage c.args.store.now) c.args.roots.now.roots) g.outside) c.requires.1.0.typed,
                ),
              ),
            ),
          ),
        ),
      ),
    )

pub returns : goal.returns
returns g c = ends_as c.throw_turn.result c.stopped.result c.stopped.ensures c.throw_turn.ensures
