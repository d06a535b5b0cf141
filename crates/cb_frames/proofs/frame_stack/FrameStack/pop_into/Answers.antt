use Rattle.std.proofs.Common.{◌<◌, ◌≡◌, ◌∙◌, ◌+◌, [], Some, ap, arith, drop, length, length-set, map, refl, slice_get}
use Rattle.cb_frames.specs.Held.{Held}
use Rattle.cb_frames.specs.Slots.{value_of}
use Rattle.cb_frames.proofs.Changed.{popped_room, same_room}
use Rattle.cb_frames.specs.Tops.{changed_in, is_long, locals_in, on_top, room_in, stack_in, with_stack}
use Rattle.cb_frames.proofs.Slotted.{local_inside, moved_of, pop_of, stack_inside, top_of, value_known}
use Rattle.cb_frames.proofs.Stacked.{few_slots, kept_laid, kept_put, kept_value, seen, shown, values_within}
use Rattle.cb_frames.proofs.frame_stack.FrameStack.pop_into.Goals as goal

pub overflow_sub-next : goal.overflow_sub-next
overflow_sub-next c =
    let some = seen (λ frames. 0 < length (on_top [] stack_in frames)) c.self.view_is c.requires.some in
    omega (arith, (stack_inside c.self.inside.slots c.self.inside.top _ c.self.invariant.stacked c.self.invariant.inside 0 some).0)

pub get-slot-requires : goal.get-slot-requires
get-slot-requires c =
    let some = seen (λ frames. 0 < length (on_top [] stack_in frames)) c.self.view_is c.requires.some in
    let within = stack_inside c.self.inside.slots c.self.inside.top _ c.self.invariant.stacked c.self.invariant.inside 0 some in
    omega (arith, within.0, within.1)

pub overflow_add-self-inside : goal.overflow_add-self-inside
overflow_add-self-inside c =
    let there = seen (λ frames. c.args.i < length (on_top [] locals_in frames)) c.self.view_is c.requires.there in
    omega (arith, local_inside c.self.inside.slots c.self.inside.top _ c.self.invariant.stacked c.self.invariant.inside c.args.i there, few_slots _ _ _ _ _ c.self.invariant)

pub set-requires : goal.set-requires
set-requires c =
    let there = seen (λ frames. c.args.i < length (on_top [] locals_in frames)) c.self.view_is c.requires.there in
    omega (arith, local_inside c.self.inside.slots c.self.inside.top _ c.self.invariant.stacked c.self.invariant.inside c.args.i there)

pub invariant_of-self : goal.invariant_of-self
invariant_of-self c =
    let some = seen (λ frames. 0 < length (on_top [] stack_in frames)) c.self.view_is c.requires.some in
    let there = seen (λ frames. c.args.i < length (on_top [] locals_in frames)) c.self.view_is c.requires.there in
    kept_laid _ _ _ _ _ _ _ _ _ _ (kept_laid _ _ _ _ _ _ _ _ _ _ c.self.invariant refl (pop_of c.self.inside.slots c.self.inside.top _ c.self.invariant.stacked c.self.invariant.inside some)) (ap length c.set.ensures ∙ length-set c.self.inside.slots _ _)
    (kept_put _ _ _ _ _ _ _ c.set.ensures (moved_of c.self.inside.slots c.self.inside.top _ c.self.invariant.stacked c.self.invariant.inside c.args.i c.get-slot.result (value_of c.get-slot.result) some there refl))

pub returns-clause-value : goal.returns-clause-value
returns-clause-value c =
    λ value is.
    let some = seen (λ frames. 0 < length (on_top [] stack_in frames)) c.self.view_is c.requires.some in
    let there = seen (λ frames. c.args.i < length (on_top [] locals_in frames)) c.self.view_is c.requires.there in
    let read =
    shown (λ frames. slice_get (on_top [] stack_in frames) 0 ≡ Some (value_of c.get-slot.result)) c.self.view_is
    (top_of c.self.inside.slots c.self.inside.top _ c.self.invariant.stacked c.self.invariant.inside c.get-slot.result some c.get-slot.ensures) in
    kept_value _ _ _ _ _ _ _ _ (kept_value _ _ _ _ _ _ _ _ c.self.view_is (pop_of c.self.inside.slots c.self.inside.top _ c.self.invariant.stacked c.self.invariant.inside some))
    (kept_put _ _ _ _ _ _ _ c.set.ensures (moved_of c.self.inside.slots c.self.inside.top _ c.self.invariant.stacked c.self.invariant.inside c.args.i c.get-slot.result value some there (value_known c.get-slot.result _ value read is)))

pub returns-clause-long : goal.returns-clause-long
returns-clause-long c =
    λ value is.
    let some = seen (λ frames. 0 < length (on_top [] stack_in frames)) c.self.view_is c.requires.some in
    let read =
    shown (λ frames. slice_get (on_top [] stack_in frames) 0 ≡ Some (value_of c.get-slot.result)) c.self.view_is
    (top_of c.self.inside.slots c.self.inside.top _ c.self.invariant.stacked c.self.invariant.inside c.get-slot.result some c.get-slot.ensures) in
    c.is_long.ensures c.get-slot.result.word ∙ ap is_long (value_known c.get-slot.result _ value read is)

pub returns-clause-room : goal.returns-clause-room
returns-clause-room c =
    let some = seen (λ frames. 0 < length (on_top [] stack_in frames)) c.self.view_is c.requires.some in
    let there = seen (λ frames. c.args.i < length (on_top [] locals_in frames)) c.self.view_is c.requires.there in
    ap (λ (held : Held). on_top 0 room_in held.frames)
    (kept_value _ _ _ _ _ _ _ _ (kept_value _ _ _ _ _ _ _ _ c.self.view_is (pop_of c.self.inside.slots c.self.inside.top _ c.self.invariant.stacked c.self.invariant.inside some))
    (kept_put _ _ _ _ _ _ _ c.set.ensures (moved_of c.self.inside.slots c.self.inside.top _ c.self.invariant.stacked c.self.invariant.inside c.args.i c.get-slot.result (value_of c.get-slot.result) some there refl)))
    ∙ same_room _ c.args.i (value_of c.get-slot.result)
    ∙ shown (λ frames. on_top 0 room_in (changed_in (with_stack (λ stack. drop 1 stack)) frames) ≡ on_top 0 room_in frames + 1) c.self.view_is
    (popped_room (map value_of c.self.inside.slots) c.self.inside.top _ c.self.invariant.stacked (values_within c.self.inside.slots _ c.self.invariant.inside) some)
