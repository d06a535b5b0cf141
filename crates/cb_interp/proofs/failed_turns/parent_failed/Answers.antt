use Rattle.cb_heap.specs.Storage.{view_in}
use Rattle.std.proofs.Common.{rules, arith, refl}
use Rattle.cb_machine.specs.Sites.{no_class_definition}
use Rattle.cb_safety.proofs.Laws.{typed_states_are_closed}
use Rattle.cb_act.specs.Turning.{state_of}
use Rattle.cb_interp.proofs.TurnsFrame.{stands_first}
use Rattle.cb_interp.proofs.TurnsFrameFailed.{failed_plan, looks_at_failed, place_low}
use Rattle.cb_interp.proofs.failed_turns.parent_failed.Goals as goal

pub failed_turn-requires : goal.failed_turn-requires
failed_turn-requires g c κs within =
    let fits = c.linked_programs_fit.ensures.thrown c.args.program.now (g.S.Store.storage c.args.store.now).settings.shapes c.requires.1.0.linked c.requires.1.0.fits c.requires.1.0.shaped no_class_definition (8, omega arith, refl) in (
      search rules,
      (
        failed_plan c.args.program.now (g.S.Store.storage c.args.store.now).index (g.S.Store.storage c.args.store.now).kept c.args.roots.now.roots g.outside c.args.roots.now.limit c.requires.1.1.1.0.0 c.args.place c.requires.1.1.1.0.1 c.requires.1.1.0
            (looks_at_failed c.args.program.now c.args.roots.now.limit c.args.roots.now.roots c.requires.1.1.1.0.0 c.args.place c.requires.1.1.1.0.1 c.requires.1.1.1.1),
        (
          fits.there,
          (
            fits.placed.shaped,
            (
              fits.placed.sized,
              (
                c.requires.1.0.sites no_class_definition fits.there,
                (
                  c.requires.1.0.few,
                  (
                    typed_states_are_closed c.args.program.now (state_of (view_in (g.S.Store.storage c.args.store.now) c.args.roots.now.roots) g.outside) c.requires.1.0.typed,
                    stands_first c.requires.1.1.1.0.0 c.args.place c.args.roots.now.roots.frames c.requires.1.1.1.0.1,
                  ),
                ),
              ),
            ),
          ),
        ),
      ),
    )

pub overflow_add-place : goal.overflow_add-place
overflow_add-place g c =
    omega (
      arith,
      place_low c.args.program.now c.args.roots.now.roots c.requires.1.1.1.0.0 c.args.place
          (looks_at_failed c.args.program.now c.args.roots.now.limit c.args.roots.now.roots c.requires.1.1.1.0.0 c.args.place c.requires.1.1.1.0.1 c.requires.1.1.1.1),
      c.linked_frames.ensures.few c.args.program.now c.requires.1.0.linked c.requires.1.1.1.0.0,
    )
