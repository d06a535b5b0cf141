use Rattle.std.proofs.Common.{◌<◌, ◌≡◌, ◌∙◌, [], Some, ap, arith, length, slice_get, sym}
use Rattle.cb_frames.specs.Slots.{value_of}
use Rattle.cb_frames.specs.Tops.{locals_in, on_top}
use Rattle.cb_frames.proofs.Slotted.{local_inside, local_of}
use Rattle.cb_frames.proofs.Stacked.{few_slots, seen, shown}
use Rattle.cb_frames.proofs.frame_stack.FrameStack.local.Goals as goal

pub overflow_add-self-inside : goal.overflow_add-self-inside
overflow_add-self-inside c =
    let there = seen (λ frames. c.args.i < length (on_top [] locals_in frames)) c.self.view_is c.requires in
    omega (arith, local_inside c.self.inside.slots c.self.inside.top _ c.self.invariant.stacked c.self.invariant.inside c.args.i there, few_slots _ _ _ _ _ c.self.invariant)

pub get-slot-requires : goal.get-slot-requires
get-slot-requires c =
    let there = seen (λ frames. c.args.i < length (on_top [] locals_in frames)) c.self.view_is c.requires in
    omega (arith, local_inside c.self.inside.slots c.self.inside.top _ c.self.invariant.stacked c.self.invariant.inside c.args.i there)

pub returns : goal.returns
returns c =
    let there = seen (λ frames. c.args.i < length (on_top [] locals_in frames)) c.self.view_is c.requires in
    shown (λ frames. slice_get (on_top [] locals_in frames) c.args.i ≡ Some (value_of c.get-slot.result)) c.self.view_is
    (local_of c.self.inside.slots c.self.inside.top _ c.self.invariant.stacked c.self.invariant.inside c.args.i c.get-slot.result there c.get-slot.ensures)
    ∙ ap Some (sym c.value_in.ensures)
