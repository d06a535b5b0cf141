use Rattle.std.proofs.Common.{◌<◌, ◌∙◌, ap, arith, drop, length, length-set, map, reverse, slice_index, slice_set}
use Rattle.std.specs.List.{flat_map}
use Rattle.std.proofs.lemmas.List.{map-set}
use Rattle.cb_frames.specs.Entries.{frame_entries, nulled_frame}
use Rattle.cb_frames.specs.Inner.{frames_in}
use Rattle.cb_frames.specs.Slots.{value_of}
use Rattle.cb_frames.proofs.Laid.{set_entries, set_frames, set_within}
use Rattle.cb_frames.proofs.Stacked.{seen, sized_laid, values_within}
use Rattle.cb_frames.proofs.frame_stack.FrameStack.set_reference.Goals as goal

pub set-requires : goal.set-requires
set-requires c =
    let some = seen (λ frames. 0 < slice_index (flat_map frame_entries (reverse frames)) c.args.i) c.self.view_is c.requires in
    omega (arith, set_within (map value_of c.self.inside.slots) c.self.inside.top _ c.args.i c.args.to c.self.invariant.stacked (values_within c.self.inside.slots _ c.self.invariant.inside) some, c.self.invariant.inside)

pub invariant_of-self : goal.invariant_of-self
invariant_of-self c = sized_laid _ _ _ _ _ _ c.self.invariant (ap length c.set.ensures ∙ length-set c.self.inside.slots _ _)

pub returns-clause-entry : goal.returns-clause-entry
returns-clause-entry c =
    let some = seen (λ frames. 0 < slice_index (flat_map frame_entries (reverse frames)) c.args.i) c.self.view_is c.requires in
    ap (λ slots. flat_map frame_entries (reverse (frames_in slots c.self.inside.top (drop c.self.inside.free c.self.inside.below.items)))) (ap (map value_of) c.set.ensures ∙ map-set value_of c.self.inside.slots c.args.i _)
    ∙ set_entries (map value_of c.self.inside.slots) c.self.inside.top _ c.args.i c.args.to c.self.invariant.stacked (values_within c.self.inside.slots _ c.self.invariant.inside) some
    ∙ ap (λ held. slice_set (flat_map frame_entries (reverse held.frames)) c.args.i c.args.to) c.self.view_is

pub returns-clause-rest : goal.returns-clause-rest
returns-clause-rest c =
    let some = seen (λ frames. 0 < slice_index (flat_map frame_entries (reverse frames)) c.args.i) c.self.view_is c.requires in
    ap (λ slots. map nulled_frame (frames_in slots c.self.inside.top (drop c.self.inside.free c.self.inside.below.items))) (ap (map value_of) c.set.ensures ∙ map-set value_of c.self.inside.slots c.args.i _)
    ∙ set_frames (map value_of c.self.inside.slots) c.self.inside.top _ c.args.i c.args.to c.self.invariant.stacked (values_within c.self.inside.slots _ c.self.invariant.inside) some
    ∙ ap (λ held. map nulled_frame held.frames) c.self.view_is
