use Rattle.std.proofs.Common.{◌<◌, ◌≡◌, ◌∙◌, [], Some, ap, arith, length, slice_get, sym}
use Rattle.cb_frames.specs.Slots.{value_of}
use Rattle.cb_frames.specs.Tops.{on_top, stack_in}
use Rattle.cb_frames.proofs.Slotted.{stack_inside, stack_of}
use Rattle.cb_frames.proofs.Stacked.{seen, shown}
use Rattle.cb_frames.proofs.frame_stack.FrameStack.peek.Goals as goal

pub overflow_sub-self-inside : goal.overflow_sub-self-inside
overflow_sub-self-inside c =
    let there = seen (λ frames. c.args.below < length (on_top [] stack_in frames)) c.self.view_is c.requires in
    omega (arith, (stack_inside c.self.inside.slots c.self.inside.top _ c.self.invariant.stacked c.self.invariant.inside c.args.below there).0)

pub overflow_sub-self-inside-2 : goal.overflow_sub-self-inside-2
overflow_sub-self-inside-2 c =
    let there = seen (λ frames. c.args.below < length (on_top [] stack_in frames)) c.self.view_is c.requires in
    omega (arith, (stack_inside c.self.inside.slots c.self.inside.top _ c.self.invariant.stacked c.self.invariant.inside c.args.below there).0)

pub get-slot-requires : goal.get-slot-requires
get-slot-requires c =
    let there = seen (λ frames. c.args.below < length (on_top [] stack_in frames)) c.self.view_is c.requires in
    let within = stack_inside c.self.inside.slots c.self.inside.top _ c.self.invariant.stacked c.self.invariant.inside c.args.below there in
    omega (arith, within.0, within.1)

pub returns : goal.returns
returns c =
    let there = seen (λ frames. c.args.below < length (on_top [] stack_in frames)) c.self.view_is c.requires in
    shown (λ frames. slice_get (on_top [] stack_in frames) c.args.below ≡ Some (value_of c.get-slot.result)) c.self.view_is
    (stack_of c.self.inside.slots c.self.inside.top _ c.self.invariant.stacked c.self.invariant.inside c.args.below c.get-slot.result there c.get-slot.ensures)
    ∙ ap Some (sym c.value_in.ensures)
