use Rattle.cb_heap.specs.Storage.{view_in}
use Rattle.std.proofs.Common.{rules}
use Rattle.cb_safety.proofs.Laws.{typed_states_are_closed}
use Rattle.cb_act.specs.Turning.{state_of}
use Rattle.cb_interp.proofs.frame_turns.throws_at.Goals as goal

pub throw_turn-requires : goal.throw_turn-requires
throw_turn-requires g c κs within =
    let fits = c.linked_programs_fit.ensures.thrown c.args.program.now (g.S.Store.storage c.args.store.now).settings.shapes c.requires.1.0.linked c.requires.1.0.fits c.requires.1.0.shaped c.args.site c.requires.1.1.1 in (
      search rules,
      (
        c.requires.1.1.0,
        (
          fits.there,
          (
            fits.placed.shaped,
            (
              fits.placed.sized,
              (
                c.requires.1.0.sites c.args.site fits.there,
                (
                  c.requires.1.0.few,
                  typed_states_are_closed c.args.program.now (state_of (view_in (g.S.Store.storage c.args.store.now) c.args.roots.now.roots) g.outside) c.requires.1.0.typed,
                ),
              ),
            ),
          ),
        ),
      ),
    )
