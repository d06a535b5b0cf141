use Rattle.std.proofs.Common.{◌<◌, ◌≡◌, ◌∙◌, ◌+◌, [], Some, ap, arith, drop, length, map, refl, slice_get, sym}
use Rattle.cb_frames.specs.Held.{Held}
use Rattle.cb_frames.specs.Slots.{value_of}
use Rattle.cb_frames.proofs.Changed.{popped_room}
use Rattle.cb_frames.specs.Tops.{changed_in, on_top, room_in, stack_in, with_stack}
use Rattle.cb_frames.proofs.Slotted.{pop_of, stack_inside, top_of}
use Rattle.cb_frames.proofs.Stacked.{kept_laid, kept_value, seen, shown, values_within}
use Rattle.cb_frames.proofs.frame_stack.FrameStack.pop.Goals as goal

pub overflow_sub-next : goal.overflow_sub-next
overflow_sub-next c =
    let some = seen (λ frames. 0 < length (on_top [] stack_in frames)) c.self.view_is c.requires in
    omega (arith, (stack_inside c.self.inside.slots c.self.inside.top _ c.self.invariant.stacked c.self.invariant.inside 0 some).0)

pub get-slot-requires : goal.get-slot-requires
get-slot-requires c =
    let some = seen (λ frames. 0 < length (on_top [] stack_in frames)) c.self.view_is c.requires in
    let within = stack_inside c.self.inside.slots c.self.inside.top _ c.self.invariant.stacked c.self.invariant.inside 0 some in
    omega (arith, within.0, within.1)

pub invariant_of-self : goal.invariant_of-self
invariant_of-self c =
    let some = seen (λ frames. 0 < length (on_top [] stack_in frames)) c.self.view_is c.requires in
    kept_laid _ _ _ _ _ _ _ _ _ _ c.self.invariant refl (pop_of c.self.inside.slots c.self.inside.top _ c.self.invariant.stacked c.self.invariant.inside some)

pub returns-clause-value : goal.returns-clause-value
returns-clause-value c =
    let some = seen (λ frames. 0 < length (on_top [] stack_in frames)) c.self.view_is c.requires in
    shown (λ frames. slice_get (on_top [] stack_in frames) 0 ≡ Some (value_of c.get-slot.result)) c.self.view_is
    (top_of c.self.inside.slots c.self.inside.top _ c.self.invariant.stacked c.self.invariant.inside c.get-slot.result some c.get-slot.ensures)
    ∙ ap Some (sym c.value_in.ensures)

pub returns-clause-rest : goal.returns-clause-rest
returns-clause-rest c =
    let some = seen (λ frames. 0 < length (on_top [] stack_in frames)) c.self.view_is c.requires in
    kept_value _ _ _ _ _ _ _ _ c.self.view_is (pop_of c.self.inside.slots c.self.inside.top _ c.self.invariant.stacked c.self.invariant.inside some)

pub returns-clause-room : goal.returns-clause-room
returns-clause-room c =
    let some = seen (λ frames. 0 < length (on_top [] stack_in frames)) c.self.view_is c.requires in
    ap (λ (held : Held). on_top 0 room_in held.frames) (kept_value _ _ _ _ _ _ _ _ c.self.view_is (pop_of c.self.inside.slots c.self.inside.top _ c.self.invariant.stacked c.self.invariant.inside some))
    ∙ shown (λ frames. on_top 0 room_in (changed_in (with_stack (λ stack. drop 1 stack)) frames) ≡ on_top 0 room_in frames + 1) c.self.view_is
    (popped_room (map value_of c.self.inside.slots) c.self.inside.top _ c.self.invariant.stacked (values_within c.self.inside.slots _ c.self.invariant.inside) some)
