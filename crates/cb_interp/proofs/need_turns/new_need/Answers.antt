use Rattle.cb_heap.specs.Storage.{view_in}
use Rattle.cb_machine.specs.Machine.{kind_of_site}
use Rattle.cb_safety.proofs.Laws.{typed_states_are_closed}
use Rattle.cb_interp.specs.Needing.{IsObjectHere}
use Rattle.cb_act.specs.Turning.{state_of}
use Rattle.cb_interp.proofs.TurnsNeed.{ends_as}
use Rattle.cb_interp.proofs.TurnsNeedMaking.{object_placed, object_plan, object_room, object_there}
use Rattle.cb_interp.proofs.TurnsNeedSites.{site_low}
use Rattle.cb_interp.proofs.TurnsNeedThere.{site_kind_low}
use Rattle.cb_interp.proofs.need_turns.new_need.Goals as goal

pub object_here-making-requires-clause-makes : goal.object_here-making-requires-clause-makes
object_here-making-requires-clause-makes g c =
    let runs = c.requires.1.0 in
    (object_there c.args.program.now c.args.roots.now.limit (g.S.Store.storage c.args.store.now).index (g.S.Store.storage c.args.store.now).kept c.args.roots.now.roots g.outside c.args.decoded.now c.requires.1.1.0
    runs.linked runs.fits runs.typed (c.linked_programs.ensures.whole c.args.program.now runs.linked) c.requires.1.1.1.0).0

pub object_here-making-requires-clause-next : goal.object_here-making-requires-clause-next
object_here-making-requires-clause-next g c =
    let runs = c.requires.1.0 in
    (object_there c.args.program.now c.args.roots.now.limit (g.S.Store.storage c.args.store.now).index (g.S.Store.storage c.args.store.now).kept c.args.roots.now.roots g.outside c.args.decoded.now c.requires.1.1.0
    runs.linked runs.fits runs.typed (c.linked_programs.ensures.whole c.args.program.now runs.linked) c.requires.1.1.1.0).1

pub object_here-making-requires-clause-few : goal.object_here-making-requires-clause-few
object_here-making-requires-clause-few g c = c.fields_are_few.ensures c.args.program.now c.requires.1.0.linked

pub make_object_turn-requires : goal.make_object_turn-requires
make_object_turn-requires g c = λ κs lives.
    let runs = c.requires.1.0 in
    let making = c.object_here-making.result in
    let here : IsObjectHere c.args.program.now c.args.roots.now.roots c.args.decoded.now making = c.object_here-making.ensures in
    let tells = c.dimensions_are_told.ensures c.args.program.now runs.linked runs.fits in
    let kind =
    site_kind_low c.args.program.now c.args.roots.now.limit (g.S.Store.storage c.args.store.now).index (g.S.Store.storage c.args.store.now).kept c.args.roots.now.roots g.outside c.args.decoded.now c.requires.1.1.0
    runs.linked runs.fits runs.typed tells 0 making.site here.here in
    let placed =
    object_placed c.args.program.now (g.S.Store.storage c.args.store.now).settings.shapes making.site (kind_of_site c.args.program.now making.site) making.size runs.shaped kind here.sized in
    let low = site_low c.args.program.now here.here.method here.here.pc 0 making.site here.here.is in (
      lives,
      (
        object_plan c.args.program.now c.args.roots.now.limit (g.S.Store.storage c.args.store.now).index (g.S.Store.storage c.args.store.now).kept c.args.roots.now.roots g.outside c.args.decoded.now c.requires.1.1.0
            tells c.requires.1.1.1.0 c.requires.1.1.1.1 making here,
        (
          low,
          (
            placed.shaped,
            (
              placed.sized,
              (
                runs.sites making.site low,
                (
                  c.requires.1.0.few,
                  (
                    typed_states_are_closed c.args.program.now (state_of (view_in (g.S.Store.storage c.args.store.now) c.args.roots.now.roots) g.outside) runs.typed,
                    object_room c.args.program.now c.args.roots.now.limit (g.S.Store.storage c.args.store.now).index (g.S.Store.storage c.args.store.now).kept c.args.roots.now.roots g.outside c.args.decoded.now c.requires.1.1.0
                        runs.linked runs.fits runs.typed c.requires.1.1.1.0,
                  ),
                ),
              ),
            ),
          ),
        ),
      ),
    )

pub returns : goal.returns
returns g c = ends_as c.make_object_turn.result c.stopped.result c.stopped.ensures c.make_object_turn.ensures
