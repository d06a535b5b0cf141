use Rattle.cb_heap.specs.Storage.{view_in}
use Rattle.std.proofs.Common.{sym}
use Rattle.cb_act.specs.Turning.{machine_of, state_of}
use Rattle.cb_interp.proofs.TurnsNeed.{steps_on}
use Rattle.cb_interp.proofs.TurnsSwitched.{operand_there}
use Rattle.cb_interp.proofs.need_turns.switch_need.Goals as goal

pub switch_turn-requires : goal.switch_turn-requires
switch_turn-requires g c = λ κs lives. (
  lives,
  (
    record { decoded = c.args.decoded.now; here = c.requires.1.1.0; switches = c.requires.1.1.1 },
    (
      sym c.in-Some.ensures,
      steps_on (machine_of c.args.program.now c.args.roots.now.limit) (state_of (view_in (g.S.Store.storage c.args.store.now) c.args.roots.now.roots) g.outside) c.args.decoded.now c.requires.1.1.0
          c.requires.1.0.linked c.requires.1.0.fits c.requires.1.0.typed,
    ),
  ),
)

pub unreachable-requires : goal.unreachable-requires
unreachable-requires g c =
    operand_there c.args.program.now c.args.roots.now.limit (g.S.Store.storage c.args.store.now).index (g.S.Store.storage c.args.store.now).kept c.args.roots.now.roots g.outside c.args.decoded.now c.requires.1.1.0
    c.in-None.ensures
