use Rattle.cb_heap.specs.Storage.{view_in}
use Rattle.std.proofs.Common.{rules, ◌≡◌, arith, refl, sym, subst, Some}
use Rattle.cb_frames.specs.Limited.{Limited}
use Rattle.cb_machine.specs.Sites.{stack_overflow}
use Rattle.cb_machine.specs.Steps.{plan}
use Rattle.cb_machine.specs.Throwing.{throws}
use Rattle.cb_interp.specs.Running.{Ready}
use Rattle.cb_act.specs.Turning.{machine_of, state_of}
use Rattle.cb_interp.proofs.entry_turns.enters_first.Goals as goal

pub enter_turn-requires : goal.enter_turn-requires
enter_turn-requires g c κs within = (search rules, (c.requires.1.1.0, (c.requires.1.1.1.0, c.requires.1.1.1.1)))

pub throws_at-requires : goal.throws_at-requires
throws_at-requires g c κs within = (
  search rules,
  (
    subst (λ (roots : Limited). Ready g.S.Store.rules c.args.program.now (g.S.Store.storage c.args.store.now) roots g.outside) (sym c.in-Err.ensures.same) c.requires.1.0,
    (
      subst (λ (roots : Limited). plan (machine_of c.args.program.now roots.limit) (state_of (view_in (g.S.Store.storage c.args.store.now) roots.roots) g.outside)
          ≡ Some (throws (machine_of c.args.program.now roots.limit) (state_of (view_in (g.S.Store.storage c.args.store.now) roots.roots) g.outside) stack_overflow))
          (sym c.in-Err.ensures.same) c.in-Err.ensures.deep,
      (6, omega arith, refl),
    ),
  ),
)
