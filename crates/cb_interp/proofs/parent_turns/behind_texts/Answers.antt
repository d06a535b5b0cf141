use Rattle.cb_heap.specs.Storage.{view_in}
use Rattle.std.proofs.Common.{◌∙◌, ◌+◌, ap, arith, refl, sym, Some}
use Rattle.cb_frames.specs.Tops.{placed}
use Rattle.cb_heap.specs.Reading.{read_roots}
use Rattle.cb_act.specs.Turning.{machine_of, state_of}
use Rattle.cb_interp.proofs.TurnsTextBegun.{deep_so}
use Rattle.cb_interp.proofs.TurnsTextBehind.{room_read_placed}
use Rattle.cb_interp.proofs.parent_turns.behind_texts.Goals as goal

pub throws_at-requires : goal.throws_at-requires
throws_at-requires g c κs lives = (
  lives,
  (
    c.requires.1.0,
    (
      c.requires.1.1.0
          ∙ ap Some (deep_so (machine_of c.args.program.now c.args.roots.now.limit) (state_of (view_in (g.S.Store.storage c.args.store.now) c.args.roots.now.roots) g.outside)
          (placed (read_roots (g.S.Store.storage c.args.store.now).index c.args.roots.now.roots) (c.args.place + 1)).frames c.args.class
          (room_read_placed (g.S.Store.storage c.args.store.now).index c.args.roots.now.limit (c.args.place + 1) c.args.roots.now.roots ∙ sym c.has_room.ensures ∙ c.if-not-has_room.true)),
      (6, omega arith, refl),
    ),
  ),
)

pub behind_asked-requires : goal.behind_asked-requires
behind_asked-requires g c κs lives = (lives, (c.requires.1.0, (c.requires.1.1.0, (c.requires.1.1.1.0, (c.requires.1.1.1.1.0, (c.requires.1.1.1.1.1, (c.linked_constants.ensures.sites c.args.program.now c.requires.1.0.linked, (c.linked_constants.ensures.own c.args.program.now (g.S.Store.storage c.args.store.now).settings.shapes c.requires.1.0.linked c.requires.1.0.fits c.requires.1.0.shaped c.args.class, sym c.has_room.ensures ∙ c.if-not-has_room.false))))))))
