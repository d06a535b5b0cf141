use Rattle.std.proofs.Common.{rules, ◌∙◌, sym}
use Rattle.cb_interp.proofs.TurnsFrame.{class_held, may_catch, method_below, pending_kind, pending_there, steps_on}
use Rattle.cb_interp.proofs.frame_turns.unwinds.Goals as goal

pub wraps-requires-clause-there : goal.wraps-requires-clause-there
wraps-requires-clause-there g c =
    pending_there c.args.program.now (g.S.Store.storage c.args.store.now).index (g.S.Store.storage c.args.store.now).kept c.args.roots.now.roots g.outside c.requires.1.0.typed c.requires.1.1.0

pub wraps-requires-clause-kind : goal.wraps-requires-clause-kind
wraps-requires-clause-kind g c =
    pending_kind c.args.program.now (g.S.Store.storage c.args.store.now).index (g.S.Store.storage c.args.store.now).kept c.args.roots.now.roots g.outside c.requires.1.0.typed

pub wraps-requires-clause-error : goal.wraps-requires-clause-error
wraps-requires-clause-error g c = c.linked_frames.ensures.error c.args.program.now c.requires.1.0.linked

pub unwind_turn-requires : goal.unwind_turn-requires
unwind_turn-requires g c κs within = (
  search rules,
  (
    steps_on c.args.program.now (g.S.Store.storage c.args.store.now).index (g.S.Store.storage c.args.store.now).kept c.args.roots.now.roots g.outside c.requires.1.0.typed c.requires.1.0.linked c.requires.1.0.fits c.args.roots.now.limit c.requires.1.1.1,
    (
      sym c.wraps.ensures ∙ c.if-wraps.false,
      (
        pending_there c.args.program.now (g.S.Store.storage c.args.store.now).index (g.S.Store.storage c.args.store.now).kept c.args.roots.now.roots g.outside c.requires.1.0.typed c.requires.1.1.0,
        (
          pending_kind c.args.program.now (g.S.Store.storage c.args.store.now).index (g.S.Store.storage c.args.store.now).kept c.args.roots.now.roots g.outside c.requires.1.0.typed,
          (
            c.linked_frames.ensures.error c.args.program.now c.requires.1.0.linked,
            (
              method_below c.args.program.now (g.S.Store.storage c.args.store.now).index (g.S.Store.storage c.args.store.now).kept c.args.roots.now.roots g.outside c.requires.1.0.typed c.requires.1.0.linked c.requires.1.0.fits,
              (
                may_catch c.args.program.now (g.S.Store.storage c.args.store.now).index (g.S.Store.storage c.args.store.now).kept c.args.roots.now.roots g.outside c.requires.1.0.typed c.requires.1.0.linked c.requires.1.0.fits,
                class_held c.args.program.now (g.S.Store.storage c.args.store.now).index (g.S.Store.storage c.args.store.now).kept c.args.roots.now.roots g.outside c.requires.1.0.typed,
              ),
            ),
          ),
        ),
      ),
    ),
  ),
)

pub wraps_pending-requires : goal.wraps_pending-requires
wraps_pending-requires g c κs within = (search rules, (c.requires.1.0, (c.requires.1.1.0, sym c.wraps.ensures ∙ c.if-wraps.true)))
