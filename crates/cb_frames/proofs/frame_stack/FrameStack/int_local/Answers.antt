use Rattle.std.proofs.Common.{◌<◌, ◌≡◌, ◌∙◌, [], Some, arith, length, slice_get, w32}
use Rattle.std.proofs.lemmas.Int.{to_z-of_z}
use Rattle.cb_frames.specs.Slots.{value_of}
use Rattle.cb_frames.specs.Tops.{locals_in, on_top}
use Rattle.cb_frames.proofs.Slotted.{int_known, local_inside, local_of}
use Rattle.cb_frames.proofs.Stacked.{few_slots, seen, shown}
use Rattle.cb_frames.proofs.frame_stack.FrameStack.int_local.Goals as goal

pub overflow_add-self-inside : goal.overflow_add-self-inside
overflow_add-self-inside c =
    let there = seen (λ frames. c.args.i < length (on_top [] locals_in frames)) c.self.view_is c.requires in
    omega (arith, local_inside c.self.inside.slots c.self.inside.top _ c.self.invariant.stacked c.self.invariant.inside c.args.i there, few_slots _ _ _ _ _ c.self.invariant)

pub get-requires : goal.get-requires
get-requires c =
    let there = seen (λ frames. c.args.i < length (on_top [] locals_in frames)) c.self.view_is c.requires in
    omega (arith, local_inside c.self.inside.slots c.self.inside.top _ c.self.invariant.stacked c.self.invariant.inside c.args.i there)

pub returns : goal.returns
returns c =
    λ number is.
    let there = seen (λ frames. c.args.i < length (on_top [] locals_in frames)) c.self.view_is c.requires in
    let read = shown (λ frames. slice_get (on_top [] locals_in frames) c.args.i ≡ Some (value_of c.get.result)) c.self.view_is
    (local_of c.self.inside.slots c.self.inside.top _ c.self.invariant.stacked c.self.invariant.inside c.args.i c.get.result there c.get.ensures) in
    to_z-of_z w32 c.int_in.result (record { sfits = c.int_in.type_inv }) ∙ c.int_in.ensures ∙ int_known c.get.result _ number read is
