use Rattle.std.proofs.Common.{◌<◌, arith, length-set, ap, ◌∙◌, length}
use Rattle.cb_frames.specs.Tops.{on_top, room_in}
use Rattle.cb_frames.proofs.Slotted.{push_of, room_inside}
use Rattle.cb_frames.proofs.Stacked.{few_slots, kept_laid, kept_put, kept_value, seen}
use Rattle.cb_frames.proofs.frame_stack.FrameStack.push.Goals as goal

pub set-requires : goal.set-requires
set-requires c =
    let room = seen (λ frames. 0 < on_top 0 room_in frames) c.self.view_is c.requires in
    omega (arith, room_inside c.self.inside.slots c.self.inside.top _ c.self.invariant.stacked c.self.invariant.inside room)

pub overflow_add-self : goal.overflow_add-self
overflow_add-self c =
    let room = seen (λ frames. 0 < on_top 0 room_in frames) c.self.view_is c.requires in
    omega (arith, room_inside c.self.inside.slots c.self.inside.top _ c.self.invariant.stacked c.self.invariant.inside room, few_slots _ _ _ _ _ c.self.invariant)

pub invariant_of-self : goal.invariant_of-self
invariant_of-self c =
    let room = seen (λ frames. 0 < on_top 0 room_in frames) c.self.view_is c.requires in
    kept_laid _ _ _ _ _ _ _ _ _ _ c.self.invariant (ap length c.set.ensures ∙ length-set c.self.inside.slots _ _) (kept_put _ _ _ _ _ _ _ c.set.ensures (push_of c.self.inside.slots c.self.inside.top _ c.self.invariant.stacked c.self.invariant.inside c.slot_of.result c.args.value room c.slot_of.ensures))

pub returns : goal.returns
returns c =
    let room = seen (λ frames. 0 < on_top 0 room_in frames) c.self.view_is c.requires in
    kept_value _ _ _ _ _ _ _ _ c.self.view_is (kept_put _ _ _ _ _ _ _ c.set.ensures (push_of c.self.inside.slots c.self.inside.top _ c.self.invariant.stacked c.self.invariant.inside c.slot_of.result c.args.value room c.slot_of.ensures))
