use Rattle.std.proofs.Common.{◌<◌, [], arith, length, length-set, ap, ◌∙◌}
use Rattle.cb_frames.specs.Tops.{locals_in, on_top}
use Rattle.cb_frames.proofs.Slotted.{local_inside, set_of}
use Rattle.cb_frames.proofs.Stacked.{few_slots, kept_laid, kept_put, kept_value, seen}
use Rattle.cb_frames.proofs.frame_stack.FrameStack.set_local.Goals as goal

pub overflow_add-self-inside : goal.overflow_add-self-inside
overflow_add-self-inside c =
    let there = seen (λ frames. c.args.i < length (on_top [] locals_in frames)) c.self.view_is c.requires in
    omega (arith, local_inside c.self.inside.slots c.self.inside.top _ c.self.invariant.stacked c.self.invariant.inside c.args.i there, few_slots _ _ _ _ _ c.self.invariant)

pub set-requires : goal.set-requires
set-requires c =
    let there = seen (λ frames. c.args.i < length (on_top [] locals_in frames)) c.self.view_is c.requires in
    omega (arith, local_inside c.self.inside.slots c.self.inside.top _ c.self.invariant.stacked c.self.invariant.inside c.args.i there)

pub invariant_of-self : goal.invariant_of-self
invariant_of-self c =
    let there = seen (λ frames. c.args.i < length (on_top [] locals_in frames)) c.self.view_is c.requires in
    kept_laid _ _ _ _ _ _ _ _ _ _ c.self.invariant (ap length c.set.ensures ∙ length-set c.self.inside.slots _ _) (kept_put _ _ _ _ _ _ _ c.set.ensures (set_of c.self.inside.slots c.self.inside.top _ c.self.invariant.stacked c.self.invariant.inside c.args.i c.slot_of.result c.args.value there c.slot_of.ensures))

pub returns : goal.returns
returns c =
    let there = seen (λ frames. c.args.i < length (on_top [] locals_in frames)) c.self.view_is c.requires in
    kept_value _ _ _ _ _ _ _ _ c.self.view_is (kept_put _ _ _ _ _ _ _ c.set.ensures (set_of c.self.inside.slots c.self.inside.top _ c.self.invariant.stacked c.self.invariant.inside c.args.i c.slot_of.result c.args.value there c.slot_of.ensures))
