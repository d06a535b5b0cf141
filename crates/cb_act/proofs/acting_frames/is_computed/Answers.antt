use Rattle.std.proofs.Common.{◌∙◌, ap, subst, sym, ◌≤◌}
use Rattle.std.specs.Prelude.{is_some}
use Rattle.cb_frames.specs.Tops.{top_room}
use Rattle.cb_machine.specs.Machine.{or_zero}
use Rattle.cb_act.specs.Framing.{frame_left}
use Rattle.cb_act.proofs.FramesActed.{frame_done, frame_there, growth_read}
use Rattle.cb_act.proofs.acting_frames.is_computed.Goals as goal

pub frame_step-requires-clause-there : goal.frame_step-requires-clause-there
frame_step-requires-clause-there g c =
    let index = (g.S.Store.storage c.args.store.now).index in
    ap (λ next. is_some (frame_left c.args.action.now next c.place_or_zero-target.result c.args.roots.now.roots)) c.place_or_zero-next.ensures
    ∙ ap (λ target. is_some (frame_left c.args.action.now (or_zero c.args.decoded.now.next) target c.args.roots.now.roots)) c.place_or_zero-target.ensures
    ∙ frame_there index (g.S.Store.storage c.args.store.now).kept c.args.roots.now.roots c.args.decoded.now c.args.action.now c.requires.plain c.requires.there

pub frame_step-requires-clause-room : goal.frame_step-requires-clause-room
frame_step-requires-clause-room g c =
    subst (λ growth. growth ≤ top_room c.args.roots.now.roots) (growth_read (g.S.Store.storage c.args.store.now).index c.args.roots.now.roots c.args.action.now) c.requires.room

pub returns-clause-deed : goal.returns-clause-deed
returns-clause-deed g c =
    let index = (g.S.Store.storage c.args.store.now).index in
    frame_done index (g.S.Store.storage c.args.store.now).kept c.args.roots.now.roots c.frame_step.new.roots.roots c.args.decoded.now c.args.action.now c.frame_step.result c.requires.plain
    (ap (λ next. frame_left c.args.action.now next (or_zero c.args.decoded.now.target) c.args.roots.now.roots) (sym c.place_or_zero-next.ensures)
    ∙ ap (λ target. frame_left c.args.action.now c.place_or_zero-next.result target c.args.roots.now.roots) (sym c.place_or_zero-target.ensures)
    ∙ c.frame_step.ensures.left)
