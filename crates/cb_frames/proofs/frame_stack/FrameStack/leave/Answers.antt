use Rattle.std.proofs.Common.{◌<◌, ◌∙◌, ap, drop, length, map}
use Rattle.cb_frames.specs.Held.{held_of, holding}
use Rattle.cb_frames.specs.Slots.{value_of}
use Rattle.cb_frames.proofs.Entered.{left_laid, left_view, some_below}
use Rattle.cb_frames.proofs.Stacked.{seen}
use Rattle.cb_frames.proofs.frame_stack.FrameStack.leave.Goals as goal

pub invariant_of-self : goal.invariant_of-self
invariant_of-self c =
    left_laid _ _ _ _ _ _ c.self.invariant
    (some_below (map value_of c.self.inside.slots) c.self.inside.top _ _ (seen (λ frames. 0 < length frames) c.self.view_is c.requires)) c.index.ensures

pub returns : goal.returns
returns c =
    ap (held_of c.self.inside.limit)
    (left_view (map value_of c.self.inside.slots) c.self.inside.top _ c.self.inside.below.items c.self.inside.free
    (some_below (map value_of c.self.inside.slots) c.self.inside.top c.self.inside.below.items c.self.inside.free (seen (λ frames. 0 < length frames) c.self.view_is c.requires)) c.index.ensures)
    ∙ ap (λ held. holding held (drop 1 held.frames)) c.self.view_is
