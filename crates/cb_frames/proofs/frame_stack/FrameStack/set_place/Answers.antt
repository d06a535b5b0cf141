use Rattle.std.proofs.Common.{map, refl}
use Rattle.cb_frames.specs.Slots.{value_of}
use Rattle.cb_frames.proofs.Changed.{moved}
use Rattle.cb_frames.proofs.Stacked.{kept_laid, kept_value}
use Rattle.cb_frames.proofs.frame_stack.FrameStack.set_place.Goals as goal

pub invariant_of-self : goal.invariant_of-self
invariant_of-self c = kept_laid _ _ _ _ _ _ _ _ _ _ c.self.invariant refl (moved (map value_of c.self.inside.slots) _ _ c.args.place c.self.invariant.stacked)

pub returns : goal.returns
returns c = kept_value _ _ _ _ _ _ _ _ c.self.view_is (moved _ _ _ c.args.place c.self.invariant.stacked)
