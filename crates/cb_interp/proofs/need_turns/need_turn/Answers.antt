use Rattle.cb_heap.specs.Storage.{view_in}
use Rattle.std.proofs.Common.{◌∙◌, Some, ap}
use Rattle.cb_act.specs.Acting.{Asks}
use Rattle.cb_act.specs.Here.{need_plan}
use Rattle.cb_act.specs.Turning.{machine_of, state_of}
use Rattle.cb_interp.proofs.NativesAsked.{begins_low, switches_so}
use Rattle.cb_interp.proofs.TurnsNeedThrown.{thrown_site}
use Rattle.cb_interp.proofs.need_turns.need_turn.Goals as goal

pub throw_need-requires : goal.throw_need-requires
throw_need-requires g c = λ κs lives. (
  lives,
  (
    c.requires.1.0,
    (
      thrown_site c.args.program.now c.args.roots.now.limit c.args.decoded.now (view_in (g.S.Store.storage c.args.store.now) c.args.roots.now.roots)
          c.in-Throws.site (c.requires.1.1.1.0 ∙ ap (λ need. Some (Asks need)) c.in-Throws.is),
      c.requires.1.1.1.1.1 ∙ ap (need_plan (machine_of c.args.program.now c.args.roots.now.limit) (state_of (view_in (g.S.Store.storage c.args.store.now) c.args.roots.now.roots) g.outside)) c.in-Throws.is,
    ),
  ),
)

pub begins_class-requires : goal.begins_class-requires
begins_class-requires g c = λ κs lives. (
  lives,
  (
    c.requires.1.0,
    (
      c.requires.1.1.1.1.1 ∙ ap (need_plan (machine_of c.args.program.now c.args.roots.now.limit) (state_of (view_in (g.S.Store.storage c.args.store.now) c.args.roots.now.roots) g.outside)) c.in-Begins.is,
      begins_low c.args.program.now c.args.roots.now.limit c.args.decoded.now (g.S.Store.storage c.args.store.now).index (g.S.Store.storage c.args.store.now).kept c.args.roots.now.roots g.outside
          c.in-Begins.class c.requires.1.0.typed (c.requires.1.1.1.0 ∙ ap (λ need. Some (Asks need)) c.in-Begins.is),
    ),
  ),
)

pub makes_need-requires : goal.makes_need-requires
makes_need-requires g c = λ κs lives. (lives, (c.requires.1.0, (c.requires.1.1.0, c.requires.1.1.1.0 ∙ ap (λ need. Some (Asks need)) c.in-Makes.is)))

pub divide_need-requires : goal.divide_need-requires
divide_need-requires g c = λ κs lives. (lives, (c.requires.1.0, c.requires.1.1.1.1.1 ∙ ap (need_plan (machine_of c.args.program.now c.args.roots.now.limit) (state_of (view_in (g.S.Store.storage c.args.store.now) c.args.roots.now.roots) g.outside)) c.in-ByZero.is))

pub loads_need-requires : goal.loads_need-requires
loads_need-requires g c = λ κs lives. (lives, (c.requires.1.0, (c.requires.1.1.0, c.requires.1.1.1.0 ∙ ap (λ need. Some (Asks need)) c.in-Loads.is)))

pub switch_need-requires : goal.switch_need-requires
switch_need-requires g c = λ κs lives. (
  lives,
  (
    c.requires.1.0,
    (
      c.requires.1.1.0,
      switches_so c.args.program.now c.args.roots.now.limit c.args.decoded.now (view_in (g.S.Store.storage c.args.store.now) c.args.roots.now.roots) (c.requires.1.1.1.0 ∙ ap (λ need. Some (Asks need)) c.in-Switches.is),
    ),
  ),
)

pub unreachable-requires : goal.unreachable-requires
unreachable-requires g c = c.requires.1.1.1.1.0 c.in-Performs.field-0 c.in-Performs.is
