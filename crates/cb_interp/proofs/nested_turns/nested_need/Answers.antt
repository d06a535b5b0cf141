use Rattle.cb_heap.specs.Storage.{view_in}
use Rattle.cb_safety.proofs.Laws.{typed_states_are_closed}
use Rattle.cb_act.specs.Turning.{state_of}
use Rattle.cb_interp.proofs.TurnsNeed.{ends_as}
use Rattle.cb_interp.proofs.TurnsNestedPlan.{grid_fits, has_grid, nested_plan, next_nested, some_dimensions}
use Rattle.cb_interp.proofs.nested_turns.nested_need.Goals as goal

pub last_dimension-last-requires : goal.last_dimension-last-requires
last_dimension-last-requires g c =
    let runs = c.requires.1.0 in
    some_dimensions c.args.program.now c.args.roots.now.limit (g.S.Store.storage c.args.store.now).index (g.S.Store.storage c.args.store.now).kept c.args.roots.now.roots g.outside c.args.decoded.now c.requires.1.1.0
    runs.linked runs.fits runs.typed (c.linked_programs.ensures.whole c.args.program.now runs.linked) c.requires.1.1.1.0

pub next_here-next-requires : goal.next_here-next-requires
next_here-next-requires g c =
    let runs = c.requires.1.0 in
    next_nested c.args.program.now c.args.roots.now.limit (g.S.Store.storage c.args.store.now).index (g.S.Store.storage c.args.store.now).kept c.args.roots.now.roots g.outside c.args.decoded.now c.requires.1.1.0
    runs.linked runs.fits runs.typed (c.linked_programs.ensures.whole c.args.program.now runs.linked) c.requires.1.1.1.0

pub make_nested_turn-requires : goal.make_nested_turn-requires
make_nested_turn-requires g c = λ κs lives.
    let runs = c.requires.1.0 in
    let whole = c.linked_programs.ensures.whole c.args.program.now runs.linked in
    let last = c.last_dimension-last.ensures.last in (
      lives,
      (
        nested_plan c.args.program.now c.args.roots.now.limit (g.S.Store.storage c.args.store.now).index (g.S.Store.storage c.args.store.now).kept c.args.roots.now.roots g.outside c.args.decoded.now c.requires.1.1.0
            runs.linked runs.fits runs.typed whole c.requires.1.1.1.0 c.last_dimension-last.result last c.requires.1.1.1.1 c.next_here-next.result c.next_here-next.ensures,
        (
          c.last_dimension-last.ensures.few,
          (
            has_grid c.args.program.now c.args.roots.now.limit (g.S.Store.storage c.args.store.now).index (g.S.Store.storage c.args.store.now).kept c.args.roots.now.roots g.outside c.args.decoded.now c.requires.1.1.0
                runs.linked runs.fits runs.typed whole c.requires.1.1.1.0 c.last_dimension-last.result last c.requires.1.1.1.1
                (c.dimensions_are_told.ensures c.args.program.now runs.linked runs.fits),
            (
              c.requires.1.0.few,
              (
                grid_fits c.args.program.now c.args.roots.now.limit (g.S.Store.storage c.args.store.now).index (g.S.Store.storage c.args.store.now).kept c.args.roots.now.roots g.outside c.args.decoded.now c.requires.1.1.0
                    runs.linked runs.fits runs.typed whole c.requires.1.1.1.0 c.last_dimension-last.result last c.requires.1.1.1.1 (g.S.Store.storage c.args.store.now).settings.shapes
                    (c.linked_programs_fit.ensures.arrays c.args.program.now (g.S.Store.storage c.args.store.now).settings.shapes runs.linked runs.shaped),
                (
                  runs.sites,
                  (
                    runs.follows,
                    typed_states_are_closed c.args.program.now (state_of (view_in (g.S.Store.storage c.args.store.now) c.args.roots.now.roots) g.outside) runs.typed,
                  ),
                ),
              ),
            ),
          ),
        ),
      ),
    )

pub returns : goal.returns
returns g c = ends_as c.make_nested_turn.result c.stopped.result c.stopped.ensures c.make_nested_turn.ensures
