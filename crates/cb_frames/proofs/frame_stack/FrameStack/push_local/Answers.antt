use Rattle.std.proofs.Common.{◌<◌, ◌≡◌, [], Some, arith, length, length-set, refl, slice_get, ap, ◌∙◌}
use Rattle.cb_frames.specs.Slots.{value_of}
use Rattle.cb_frames.specs.Tops.{locals_in, on_top, room_in}
use Rattle.cb_frames.proofs.Slotted.{local_inside, local_of, push_of, room_inside, value_known}
use Rattle.cb_frames.proofs.Stacked.{few_slots, kept_laid, kept_put, kept_value, seen, shown}
use Rattle.cb_frames.proofs.frame_stack.FrameStack.push_local.Goals as goal

pub overflow_add-self-inside : goal.overflow_add-self-inside
overflow_add-self-inside c =
    let there = seen (λ frames. c.args.i < length (on_top [] locals_in frames)) c.self.view_is c.requires.there in
    omega (arith, local_inside c.self.inside.slots c.self.inside.top _ c.self.invariant.stacked c.self.invariant.inside c.args.i there, few_slots _ _ _ _ _ c.self.invariant)

pub get-slot-requires : goal.get-slot-requires
get-slot-requires c =
    let there = seen (λ frames. c.args.i < length (on_top [] locals_in frames)) c.self.view_is c.requires.there in
    omega (arith, local_inside c.self.inside.slots c.self.inside.top _ c.self.invariant.stacked c.self.invariant.inside c.args.i there)

pub set-requires : goal.set-requires
set-requires c =
    let room = seen (λ frames. 0 < on_top 0 room_in frames) c.self.view_is c.requires.room in
    omega (arith, room_inside c.self.inside.slots c.self.inside.top _ c.self.invariant.stacked c.self.invariant.inside room)

pub overflow_add-self : goal.overflow_add-self
overflow_add-self c =
    let room = seen (λ frames. 0 < on_top 0 room_in frames) c.self.view_is c.requires.room in
    omega (arith, room_inside c.self.inside.slots c.self.inside.top _ c.self.invariant.stacked c.self.invariant.inside room, few_slots _ _ _ _ _ c.self.invariant)

pub invariant_of-self : goal.invariant_of-self
invariant_of-self c =
    let room = seen (λ frames. 0 < on_top 0 room_in frames) c.self.view_is c.requires.room in
    kept_laid _ _ _ _ _ _ _ _ _ _ c.self.invariant (ap length c.set.ensures ∙ length-set c.self.inside.slots _ _) (kept_put _ _ _ _ _ _ _ c.set.ensures (push_of c.self.inside.slots c.self.inside.top _ c.self.invariant.stacked c.self.invariant.inside c.get-slot.result (value_of c.get-slot.result) room refl))

pub returns : goal.returns
returns c =
    λ value is.
    let there = seen (λ frames. c.args.i < length (on_top [] locals_in frames)) c.self.view_is c.requires.there in
    let room = seen (λ frames. 0 < on_top 0 room_in frames) c.self.view_is c.requires.room in
    let read = shown (λ frames. slice_get (on_top [] locals_in frames) c.args.i ≡ Some (value_of c.get-slot.result)) c.self.view_is
    (local_of c.self.inside.slots c.self.inside.top _ c.self.invariant.stacked c.self.invariant.inside c.args.i c.get-slot.result there c.get-slot.ensures) in
    kept_value _ _ _ _ _ _ _ _ c.self.view_is (kept_put _ _ _ _ _ _ _ c.set.ensures (push_of c.self.inside.slots c.self.inside.top _ c.self.invariant.stacked c.self.invariant.inside c.get-slot.result value room (value_known c.get-slot.result _ value read is)))
