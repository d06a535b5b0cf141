use Rattle.std.proofs.Common.{◌≡◌, ◌≤◌, length, min, set, take}
use Rattle.cb_blocks.specs.Holdings.{IsHeld}
use Rattle.cb_blocks.specs.Rows.{row}
use Rattle.cb_blocks.proofs.holdings.Holdings.keep.Given as goal

abbrev pub invariant-loop-self : goal.invariant-loop-self
invariant-loop-self g l =
    record {
      rows : l.self.rows ≡ set l.initial.self.rows l.part (take (length (row l.self.rows l.part)) (row l.initial.self.rows l.part));
      within : length (row l.self.rows l.part) ≤ length (row l.initial.self.rows l.part);
      far : min (length (row l.initial.self.rows l.part)) l.count ≤ length (row l.self.rows l.part);
      parts : length l.self.rows ≡ length l.initial.self.rows;
      fresh : l.self.fresh ≡ l.initial.self.fresh;
      all : l.self.count ≡ l.initial.self.count;
      longest : l.self.longest ≡ l.initial.self.longest;
      sound : IsHeld l.self;
    }

abbrev pub decreases-loop-self : goal.decreases-loop-self
decreases-loop-self g l = length (row l.self.rows l.part)
