use Rattle.std.proofs.Common.{◌≡◌, ◌++◌, map, take}
use Rattle.std.specs.List.{flat_map}
use Rattle.cb_link.specs.Program.{linked_site}
use Rattle.cb_link.specs.InnerSites.{insn_makings}
use Rattle.cb_link.proofs.sites.add_code.Given as goal

abbrev pub invariant-loop-place : goal.invariant-loop-place
invariant-loop-place l = l.sites ≡ l.initial.sites ++ map (linked_site l.kinds) (flat_map (insn_makings l.number l.pool) (take l.place-index l.code))
