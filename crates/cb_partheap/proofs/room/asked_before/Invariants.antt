use Rattle.std.proofs.Common.{◌≡◌, ◌*◌, ◌≤◌, ◌^◌, take}
use Rattle.cb_heap.specs.Occupancy.{wanted}
use Rattle.cb_partheap.specs.Heaps.{part_of}
use Rattle.cb_partheap.proofs.room.asked_before.Given as goal

abbrev pub invariant-loop-i : goal.invariant-loop-i
invariant-loop-i l = (l.words ≡ wanted (part_of l.site_parts) (take l.i l.request) l.part) × (l.words ≤ l.i * 2 ^ 64)
