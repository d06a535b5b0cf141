use Rattle.std.proofs.Common.{◌≡◌, ◌-◌, ◌≤◌}
use Rattle.cb_raw.specs.Words.{copied}
use Rattle.cb_blocks.specs.Parted.{with_words}
use Rattle.cb_blocks.specs.Rows.{row}
use Rattle.cb_blocks.proofs.blocks.Blocks.move_near.Given as goal

abbrev pub invariant-loop-done : goal.invariant-loop-done
invariant-loop-done l =
    record {
      moved : l.self ≡ with_words l.initial.self l.part (copied (row l.initial.self.words l.part) l.from l.to l.done);
      within : l.done ≤ l.count;
    }

abbrev pub decreases-loop-done : goal.decreases-loop-done
decreases-loop-done l = l.count - l.done
