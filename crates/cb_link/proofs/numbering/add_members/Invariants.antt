use Rattle.std.proofs.Common.{◌≡◌, ◌++◌, map, take}
use Rattle.std.specs.List.{enumerate_from}
use Rattle.cb_link.proofs.numbering.add_members.Given as goal

abbrev pub invariant-loop-index : goal.invariant-loop-index
invariant-loop-index g l =
    l.list ≡ l.initial.list ++ map (g.T.Numbering.entry_of l.kinds) (map (λ own. record { class = l.number; place = own.0; pool = l.class.pool; member = own.1 }) (enumerate_from 0 (take l.index l.members)))
