use Rattle.std.proofs.Common.{◌<◌, ◌≡◌, ◌∙◌, [], Some, arith, length, slice_get, w64}
use Rattle.std.proofs.lemmas.Int.{to_z-of_z}
use Rattle.cb_frames.specs.Slots.{value_of}
use Rattle.cb_frames.specs.Tops.{on_top, stack_in}
use Rattle.cb_frames.proofs.Slotted.{long_known, stack_inside, stack_of}
use Rattle.cb_frames.proofs.Stacked.{seen, shown}
use Rattle.cb_frames.proofs.frame_stack.FrameStack.long.Goals as goal

pub overflow_sub-self-inside : goal.overflow_sub-self-inside
overflow_sub-self-inside c =
    let there = seen (λ frames. c.args.below < length (on_top [] stack_in frames)) c.self.view_is c.requires in
    omega (arith, (stack_inside c.self.inside.slots c.self.inside.top _ c.self.invariant.stacked c.self.invariant.inside c.args.below there).0)

pub overflow_sub-self-inside-2 : goal.overflow_sub-self-inside-2
overflow_sub-self-inside-2 c =
    let there = seen (λ frames. c.args.below < length (on_top [] stack_in frames)) c.self.view_is c.requires in
    omega (arith, (stack_inside c.self.inside.slots c.self.inside.top _ c.self.invariant.stacked c.self.invariant.inside c.args.below there).0)

pub get-requires : goal.get-requires
get-requires c =
    let there = seen (λ frames. c.args.below < length (on_top [] stack_in frames)) c.self.view_is c.requires in
    let within = stack_inside c.self.inside.slots c.self.inside.top _ c.self.invariant.stacked c.self.invariant.inside c.args.below there in
    omega (arith, within.0, within.1)

pub returns : goal.returns
returns c =
    λ number is.
    let there = seen (λ frames. c.args.below < length (on_top [] stack_in frames)) c.self.view_is c.requires in
    let read =
    shown (λ frames. slice_get (on_top [] stack_in frames) c.args.below ≡ Some (value_of c.get.result)) c.self.view_is
    (stack_of c.self.inside.slots c.self.inside.top _ c.self.invariant.stacked c.self.invariant.inside c.args.below c.get.result there c.get.ensures) in
    to_z-of_z w64 c.long_in.result (record { sfits = c.long_in.type_inv }) ∙ c.long_in.ensures ∙ long_known c.get.result _ number read is
