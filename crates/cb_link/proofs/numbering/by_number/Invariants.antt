use Rattle.std.proofs.Common.{◌≡◌, map, take}
use Rattle.cb_link.specs.Numbers.{numbered}
use Rattle.cb_link.proofs.numbering.by_number.Given as goal

abbrev pub invariant-loop-index : goal.invariant-loop-index
invariant-loop-index g l = l.list ≡ map (g.T.Numbering.entry_of l.kinds) (numbered g.T.Numbering.members (take l.index l.classes))
