use Rattle.std.proofs.Common.{◌≡◌, ℕ, take}
use Rattle.cb_plain.specs.PlaceTable.{index_at}
use Rattle.cb_plain.specs.InnerPlaces.{index_in}
use Rattle.cb_plain.proofs.place_table.PlaceTable.of.Given as goal

abbrev pub invariant-loop-index : goal.invariant-loop-index
invariant-loop-index s l = (place : ℕ) → index_in l.row.items place ≡ index_at (take l.index l.items) place
