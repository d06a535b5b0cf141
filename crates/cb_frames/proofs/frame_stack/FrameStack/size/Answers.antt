use Rattle.std.proofs.Common.{◌≡◌, arith, length, map, reverse}
use Rattle.std.specs.List.{flat_map}
use Rattle.cb_frames.specs.Entries.{frame_entries}
use Rattle.cb_frames.specs.Slots.{value_of}
use Rattle.cb_frames.proofs.Laid.{entries_counted}
use Rattle.cb_frames.proofs.Stacked.{shown, values_within}
use Rattle.cb_frames.proofs.frame_stack.FrameStack.size.Goals as goal

pub returns-clause-entries : goal.returns-clause-entries
returns-clause-entries c =
    shown (λ frames. c.self.inside.top.end ≡ length (flat_map frame_entries (reverse frames))) c.self.view_is
    (entries_counted (map value_of c.self.inside.slots) c.self.inside.top _ c.self.invariant.stacked (values_within c.self.inside.slots _ c.self.invariant.inside))

pub returns-clause-few : goal.returns-clause-few
returns-clause-few c = omega (arith, c.self.invariant.few, c.self.invariant.inside, c.self.invariant.size)
