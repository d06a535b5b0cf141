use Rattle.std.proofs.Common.{◌≡◌, ◌+◌, ◌-◌, ◌≤◌, length, max}
use Rattle.cb_blocks.specs.Holdings.{IsHeld}
use Rattle.cb_blocks.specs.Rows.{IsExtended, held, row}
use Rattle.cb_blocks.proofs.holdings.Holdings.reach.Given as goal

abbrev pub invariant-loop-self : goal.invariant-loop-self
invariant-loop-self g l =
    record {
      rows : IsExtended l.initial.self.rows l.self.rows l.part (length (row l.self.rows l.part) - length (row l.initial.self.rows l.part));
      longer : length (row l.initial.self.rows l.part) ≤ length (row l.self.rows l.part);
      far : length (row l.self.rows l.part) ≤ max (length (row l.initial.self.rows l.part)) l.count;
      parts : length l.self.rows ≡ length l.initial.self.rows;
      room : held l.self.rows + (l.count - length (row l.self.rows l.part)) ≤ l.self.count;
      all : l.self.count ≡ l.initial.self.count;
      longest : l.self.longest ≡ l.initial.self.longest;
      sound : IsHeld l.self;
    }

abbrev pub decreases-loop-self : goal.decreases-loop-self
decreases-loop-self g l = l.count - length (row l.self.rows l.part)
