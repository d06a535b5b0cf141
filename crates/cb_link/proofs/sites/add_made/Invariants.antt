use Rattle.std.proofs.Common.{◌≡◌, ◌++◌, map, take}
use Rattle.cb_link.specs.Program.{linked_site}
use Rattle.cb_link.specs.InnerSites.{made_at}
use Rattle.cb_link.proofs.sites.add_made.Given as goal

abbrev pub invariant-loop-index : goal.invariant-loop-index
invariant-loop-index l = l.sites ≡ l.initial.sites ++ map (linked_site l.kinds) (made_at l.method l.place (take l.index l.made))
