use Rattle.std.proofs.Common.{◌≡◌, take, map}
use Rattle.cb_core.specs.Entered.{HasMethod}
use Rattle.cb_core.specs.Rowed.{method_row}
use Rattle.cb_core.specs.Sound.{method_room}
use Rattle.cb_core.specs.Recorded.{entered, with_each, with_member}
use Rattle.cb_core.proofs.Building.{Gathers}
use Rattle.cb_core.proofs.members.methods_of.Given as goal

abbrev pub invariant-loop-row : goal.invariant-loop-row
invariant-loop-row l = record {
  gathers : Gathers method_row method_room (λ pool row method. HasMethod row pool method) (take l.row-index l.rows) l.fn.pool l.pool l.methods;
  made : with_each with_member (map method_row (take l.row-index l.rows)) l.fn.pool ≡ entered l.pool l.methods;
}
