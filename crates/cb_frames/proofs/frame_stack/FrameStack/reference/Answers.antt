use Rattle.std.proofs.Common.{◌≡◌, ◌<◌, ◌∙◌, Some, ap, arith, drop, length, map, reverse, slice_get, sym}
use Rattle.std.specs.List.{flat_map}
use Rattle.cb_frames.specs.Entries.{frame_entries, referent}
use Rattle.cb_frames.specs.Inner.{used_to}
use Rattle.cb_frames.specs.Slots.{value_of}
use Rattle.cb_frames.proofs.Laid.{free_entry, slot_inside, used_entry}
use Rattle.cb_frames.proofs.Moved.{slot_read}
use Rattle.cb_frames.proofs.Stacked.{seen, shown, values_within}
use Rattle.cb_frames.proofs.frame_stack.FrameStack.reference.Goals as goal

pub used_to-requires-clause-there : goal.used_to-requires-clause-there
used_to-requires-clause-there c =
    let there = seen (λ frames. c.args.i < length (flat_map frame_entries (reverse frames))) c.self.view_is c.requires in
    slot_inside (map value_of c.self.inside.slots) c.self.inside.top (drop c.self.inside.free c.self.inside.below.items) c.args.i c.self.invariant.stacked
    (values_within c.self.inside.slots _ c.self.invariant.inside) there

pub returns-then-i-used_to : goal.returns-then-i-used_to
returns-then-i-used_to c =
    let there = seen (λ frames. c.args.i < length (flat_map frame_entries (reverse frames))) c.self.view_is c.requires in
    let used : c.used_to.result ≡ used_to c.self.inside.top (drop c.self.inside.free c.self.inside.below.items) c.args.i =
    c.used_to.ensures ∙ ap (λ below. used_to c.self.inside.top (drop c.self.inside.free below) c.args.i) c.deref.ensures.value in
    shown (λ frames. slice_get (flat_map frame_entries (reverse frames)) c.args.i ≡ Some 0) c.self.view_is
    (free_entry (map value_of c.self.inside.slots) c.self.inside.top (drop c.self.inside.free c.self.inside.below.items) c.args.i c.self.invariant.stacked
    (values_within c.self.inside.slots _ c.self.invariant.inside) there (omega (arith, used)))

pub get-slot-requires : goal.get-slot-requires
get-slot-requires c =
    let there = seen (λ frames. c.args.i < length (flat_map frame_entries (reverse frames))) c.self.view_is c.requires in
    omega (
      arith,
      slot_inside (map value_of c.self.inside.slots) c.self.inside.top (drop c.self.inside.free c.self.inside.below.items) c.args.i c.self.invariant.stacked
          (values_within c.self.inside.slots _ c.self.invariant.inside) there,
      c.self.invariant.inside,
    )

pub returns : goal.returns
returns c =
    let there = seen (λ frames. c.args.i < length (flat_map frame_entries (reverse frames))) c.self.view_is c.requires in
    let used : c.used_to.result ≡ used_to c.self.inside.top (drop c.self.inside.free c.self.inside.below.items) c.args.i =
    c.used_to.ensures ∙ ap (λ below. used_to c.self.inside.top (drop c.self.inside.free below) c.args.i) c.deref.ensures.value in
    let within = slot_inside (map value_of c.self.inside.slots) c.self.inside.top (drop c.self.inside.free c.self.inside.below.items) c.args.i c.self.invariant.stacked
    (values_within c.self.inside.slots _ c.self.invariant.inside) there in
    shown (λ frames. slice_get (flat_map frame_entries (reverse frames)) c.args.i ≡ Some (referent (value_of c.get-slot.result))) c.self.view_is
    (used_entry (map value_of c.self.inside.slots) c.self.inside.top (drop c.self.inside.free c.self.inside.below.items) c.args.i c.self.invariant.stacked
    (values_within c.self.inside.slots _ c.self.invariant.inside) there
    (value_of c.get-slot.result) (slot_read c.self.inside.slots c.args.i c.get-slot.result (value_of c.get-slot.result) (omega (arith, within, c.self.invariant.inside)) c.get-slot.ensures)
    (omega (arith, used)))
    ∙ ap Some (sym c.reference_in.ensures)
