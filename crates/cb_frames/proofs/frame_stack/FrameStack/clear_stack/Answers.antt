use Rattle.std.proofs.Common.{◌<◌, length, map, refl}
use Rattle.cb_frames.specs.Slots.{value_of}
use Rattle.cb_frames.proofs.Changed.{emptied}
use Rattle.cb_frames.proofs.Stacked.{kept_laid, kept_value, seen}
use Rattle.cb_frames.proofs.frame_stack.FrameStack.clear_stack.Goals as goal

pub invariant_of-self : goal.invariant_of-self
invariant_of-self c =
    let some = seen (λ frames. 0 < length frames) c.self.view_is c.requires in
    kept_laid _ _ _ _ _ _ _ _ _ _ c.self.invariant refl (emptied (map value_of c.self.inside.slots) c.self.inside.top _ c.self.invariant.stacked some)

pub returns : goal.returns
returns c =
    let some = seen (λ frames. 0 < length frames) c.self.view_is c.requires in
    kept_value _ _ _ _ _ _ _ _ c.self.view_is (emptied (map value_of c.self.inside.slots) c.self.inside.top _ c.self.invariant.stacked some)
