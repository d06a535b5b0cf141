use Rattle.std.proofs.Common.{◌≡◌, ◌+◌, ◌++◌, map, take}
use Rattle.cb_link.specs.Program.{linked_site}
use Rattle.cb_link.proofs.SitedLaws.{methods_make}
use Rattle.cb_link.proofs.sites.add_class.Given as goal

abbrev pub invariant-loop-method : goal.invariant-loop-method
invariant-loop-method l = record {
  number : l.number ≡ l.first + l.method-index;
  sites : l.sites ≡ l.initial.sites ++ map (linked_site l.kinds) (methods_make l.class.pool l.first (take l.method-index l.methods));
}
