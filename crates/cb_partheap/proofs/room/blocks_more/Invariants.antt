use Rattle.std.proofs.Common.{◌≡◌, ◌+◌, ◌*◌, ◌≤◌, ◌^◌, take}
use Rattle.cb_blocks.specs.Parted.{taken}
use Rattle.cb_partheap.specs.Whole.{blocks_of_all}
use Rattle.cb_partheap.proofs.room.blocks_more.Given as goal

abbrev pub invariant-loop-i : goal.invariant-loop-i
invariant-loop-i l = (l.more + taken l.words.words ≡ blocks_of_all l.words l.site_parts (take l.i l.request)) × (l.more ≤ l.i * 2 ^ 64)
