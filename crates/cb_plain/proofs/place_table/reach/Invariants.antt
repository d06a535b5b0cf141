use Rattle.std.proofs.Common.{◌≡◌, ℕ, ◌+◌, ◌-◌, length}
use Rattle.cb_plain.specs.InnerPlaces.{index_in}
use Rattle.cb_plain.proofs.place_table.reach.Given as goal

abbrev pub invariant-loop-row : goal.invariant-loop-row
invariant-loop-row l = (other : ℕ) → index_in l.row.items other ≡ index_in l.initial.row.items other

abbrev pub decreases-loop-row : goal.decreases-loop-row
decreases-loop-row l = l.place + 1 - length l.row.items
