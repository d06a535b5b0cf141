use Rattle.std.proofs.Common.{◌≡◌, ◌+◌, length, map, slice_range}
use Rattle.std.specs.List.{flat_map}
use Rattle.cb_plain.specs.Depth.{slots_of}
use Rattle.cb_frames.specs.Inner.{pasted}
use Rattle.cb_frames.specs.Slots.{value_of}
use Rattle.cb_frames.proofs.arguments.spread.Given as goal

abbrev pub invariant-loop-i : goal.invariant-loop-i
invariant-loop-i l =
    (map value_of l.slots ≡ pasted (map value_of l.initial.slots) l.to (flat_map slots_of (slice_range (map value_of l.initial.slots) l.from l.i)))
    × (l.at ≡ l.to + length (flat_map slots_of (slice_range (map value_of l.initial.slots) l.from l.i)))
    × (length l.slots ≡ length l.initial.slots)
