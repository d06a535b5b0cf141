use Rattle.std.proofs.Common.{◌∙◌, ◌∷◌, ap, arith, map}
use Rattle.cb_plain.specs.State.{Initialising}
use Rattle.cb_frames.specs.Held.{held_of, holding}
use Rattle.cb_frames.specs.Slots.{value_of}
use Rattle.cb_frames.proofs.Entered.{begun_laid, class_at, stood_frames}
use Rattle.cb_frames.proofs.Stacked.{room_known}
use Rattle.cb_frames.proofs.frame_stack.FrameStack.enter_init.Goals as goal

pub overflow_sub-self : goal.overflow_sub-self
overflow_sub-self c = omega (arith, (room_known _ _ _ _ _ 0 _ _ c.self.view_is c.self.invariant c.requires).0)

pub invariant_of-self : goal.invariant_of-self
invariant_of-self c = begun_laid _ _ _ _ _ _ c.self.invariant (room_known _ _ _ _ _ 0 _ _ c.self.view_is c.self.invariant c.requires).0

pub returns : goal.returns
returns c =
    ap (held_of c.self.inside.limit)
    (stood_frames (map value_of c.self.inside.slots) c.self.inside.top (class_at c.self.inside.top c.args.class) c.self.inside.below.items c.self.inside.free
    (room_known _ _ _ _ _ 0 _ _ c.self.view_is c.self.invariant c.requires).0 c.self.invariant.within)
    ∙ ap (λ held. holding held (Initialising c.args.class 0 ∷ held.frames)) c.self.view_is
