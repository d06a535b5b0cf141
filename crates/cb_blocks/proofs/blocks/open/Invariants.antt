use Rattle.std.proofs.Common.{◌+◌, ◌-◌, ◌≤◌, length, max}
use Rattle.cb_blocks.specs.Parted.{IsOpened}
use Rattle.cb_blocks.specs.Rows.{held, row}
use Rattle.cb_blocks.proofs.blocks.open.Given as goal

abbrev pub invariant-loop-blocks : goal.invariant-loop-blocks
invariant-loop-blocks l =
    record {
      opened : IsOpened l.initial.region l.initial.blocks l.region l.blocks l.part (length (row l.blocks.rows l.part) - length (row l.initial.blocks.rows l.part));
      longer : length (row l.initial.blocks.rows l.part) ≤ length (row l.blocks.rows l.part);
      far : length (row l.blocks.rows l.part) ≤ max (length (row l.initial.blocks.rows l.part)) l.wanted;
      room : held l.blocks.rows + (l.wanted - length (row l.blocks.rows l.part)) ≤ l.blocks.count;
    }

abbrev pub decreases-loop-blocks : goal.decreases-loop-blocks
decreases-loop-blocks l = l.wanted - length (row l.blocks.rows l.part)
