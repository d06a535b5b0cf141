use Rattle.cb_heap.specs.Storage.{view_in}
use Rattle.std.proofs.Common.{rules, ◌≡◌, arith, refl, sym, subst, Some}
use Rattle.cb_frames.specs.Limited.{Limited}
use Rattle.cb_machine.specs.Sites.{stack_overflow}
use Rattle.cb_machine.specs.Steps.{plan}
use Rattle.cb_machine.specs.Throwing.{throws}
use Rattle.cb_interp.specs.Running.{Ready}
use Rattle.cb_act.specs.Turning.{machine_of, state_of}
use Rattle.cb_interp.proofs.TurnsFrame.{class_below, classes_fit}
use Rattle.cb_interp.proofs.TurnsFrameFew.{statics_read}
use Rattle.cb_interp.proofs.TurnsFrameInit.{initial_there}
use Rattle.cb_interp.proofs.frame_turns.initialises.Goals as goal

pub init_turn-requires : goal.init_turn-requires
init_turn-requires g c κs within = (
  search rules,
  (
    c.requires.1.1.0,
    (
      initial_there c.args.program.now (g.S.Store.storage c.args.store.now).index (g.S.Store.storage c.args.store.now).kept c.args.roots.now.roots g.outside c.args.roots.now.limit
          c.requires.1.0.typed c.requires.1.0.linked c.requires.1.0.fits c.requires.1.1.0 c.requires.1.1.1.1.1.0.0 c.requires.1.1.1.1.1.0.1 c.requires.1.1.1.1.1.0.2 c.requires.1.1.1.1.1.1,
      (
        c.requires.1.1.1.1.0,
        (
          class_below c.args.program.now (g.S.Store.storage c.args.store.now).index (g.S.Store.storage c.args.store.now).kept c.args.roots.now.roots g.outside c.requires.1.0.typed,
          (
            λ class place top. c.linked_frames.ensures.few c.args.program.now c.requires.1.0.linked class,
            (
              c.requires.1.1.1.1.1.1,
              (
                classes_fit c.args.program.now (g.S.Store.storage c.args.store.now).index (g.S.Store.storage c.args.store.now).kept c.args.roots.now.roots g.outside c.requires.1.0.typed,
                statics_read c.args.program.now (g.S.Store.storage c.args.store.now).index (g.S.Store.storage c.args.store.now).kept c.args.roots.now.roots g.outside c.requires.1.0.linked c.requires.1.0.typed,
              ),
            ),
          ),
        ),
      ),
    ),
  ),
)

pub throws_at-requires : goal.throws_at-requires
throws_at-requires g c κs within = (
  search rules,
  (
    subst (λ (roots : Limited). Ready g.S.Store.rules c.args.program.now (g.S.Store.storage c.args.store.now) roots g.outside) (sym c.in-Err.ensures.same) c.requires.1.0,
    (
      subst (λ (roots : Limited). plan (machine_of c.args.program.now roots.limit) (state_of (view_in (g.S.Store.storage c.args.store.now) roots.roots) g.outside)
          ≡ Some (throws (machine_of c.args.program.now roots.limit) (state_of (view_in (g.S.Store.storage c.args.store.now) roots.roots) g.outside) stack_overflow))
          (sym c.in-Err.ensures.same) c.in-Err.ensures.deep,
      (6, omega arith, refl),
    ),
  ),
)
