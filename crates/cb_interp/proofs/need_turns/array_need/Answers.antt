use Rattle.cb_heap.specs.Storage.{view_in}
use Rattle.cb_machine.specs.Machine.{kind_of_site}
use Rattle.cb_safety.proofs.Laws.{typed_states_are_closed}
use Rattle.cb_interp.specs.Needing.{IsArrayHere}
use Rattle.cb_act.specs.Turning.{state_of}
use Rattle.cb_interp.proofs.TurnsNeed.{ends_as}
use Rattle.cb_interp.proofs.TurnsNeedMaking.{array_elements, array_placed, array_plan, array_sized, array_there, size_there}
use Rattle.cb_interp.proofs.TurnsNeedSites.{site_low}
use Rattle.cb_interp.proofs.need_turns.array_need.Goals as goal

pub array_here-making-requires-clause-makes : goal.array_here-making-requires-clause-makes
array_here-making-requires-clause-makes g c =
    let runs = c.requires.1.0 in
    (array_there c.args.program.now c.args.roots.now.limit (g.S.Store.storage c.args.store.now).index (g.S.Store.storage c.args.store.now).kept c.args.roots.now.roots g.outside c.args.decoded.now c.requires.1.1.0
    runs.linked runs.fits runs.typed (c.linked_programs.ensures.whole c.args.program.now runs.linked) c.requires.1.1.1.0).0

pub array_here-making-requires-clause-next : goal.array_here-making-requires-clause-next
array_here-making-requires-clause-next g c =
    let runs = c.requires.1.0 in
    (array_there c.args.program.now c.args.roots.now.limit (g.S.Store.storage c.args.store.now).index (g.S.Store.storage c.args.store.now).kept c.args.roots.now.roots g.outside c.args.decoded.now c.requires.1.1.0
    runs.linked runs.fits runs.typed (c.linked_programs.ensures.whole c.args.program.now runs.linked) c.requires.1.1.1.0).1

pub array_here-making-requires-clause-size : goal.array_here-making-requires-clause-size
array_here-making-requires-clause-size g c =
    size_there c.args.program.now c.args.roots.now.limit (g.S.Store.storage c.args.store.now).index (g.S.Store.storage c.args.store.now).kept c.args.roots.now.roots g.outside c.args.decoded.now
    c.requires.1.1.1.0 c.requires.1.1.1.1

pub make_array_turn-requires : goal.make_array_turn-requires
make_array_turn-requires g c = λ κs lives.
    let runs = c.requires.1.0 in
    let making = c.array_here-making.result in
    let here : IsArrayHere c.args.program.now c.args.roots.now.roots c.args.decoded.now making = c.array_here-making.ensures in
    let tells = c.dimensions_are_told.ensures c.args.program.now runs.linked runs.fits in
    let elements =
    array_elements c.args.program.now c.args.roots.now.limit (g.S.Store.storage c.args.store.now).index (g.S.Store.storage c.args.store.now).kept c.args.roots.now.roots g.outside c.args.decoded.now c.requires.1.1.0
    runs.linked runs.fits runs.typed (c.linked_programs.ensures.whole c.args.program.now runs.linked) tells c.requires.1.1.1.0 making.site here.here in
    let placed =
    array_placed c.args.program.now (g.S.Store.storage c.args.store.now).settings.shapes making.site (kind_of_site c.args.program.now making.site) making.size
    (c.linked_programs_fit.ensures.arrays c.args.program.now (g.S.Store.storage c.args.store.now).settings.shapes runs.linked runs.shaped) elements in
    let low = site_low c.args.program.now here.here.method here.here.pc 0 making.site here.here.is in (
      lives,
      (
        array_plan c.args.program.now c.args.roots.now.limit (g.S.Store.storage c.args.store.now).index (g.S.Store.storage c.args.store.now).kept c.args.roots.now.roots g.outside c.args.decoded.now c.requires.1.1.0
            tells c.requires.1.1.1.0 making here,
        (
          low,
          (
            placed.shaped,
            (
              placed.sized,
              (
                runs.sites making.site low,
                (
                  c.requires.1.0.few,
                  (
                    typed_states_are_closed c.args.program.now (state_of (view_in (g.S.Store.storage c.args.store.now) c.args.roots.now.roots) g.outside) runs.typed,
                    array_sized c.args.program.now c.args.roots.now.limit (g.S.Store.storage c.args.store.now).index (g.S.Store.storage c.args.store.now).kept c.args.roots.now.roots g.outside c.args.decoded.now making here,
                  ),
                ),
              ),
            ),
          ),
        ),
      ),
    )

pub returns : goal.returns
returns g c = ends_as c.make_array_turn.result c.stopped.result c.stopped.ensures c.make_array_turn.ensures
