use Rattle.std.proofs.Common.{◌≡◌, length, map, take}
use Rattle.cb_link.specs.Making.{makings}
use Rattle.cb_link.specs.Numbers.{methods_of}
use Rattle.cb_link.specs.Program.{linked_site}
use Rattle.cb_link.proofs.sites.sites_by_number.Given as goal

abbrev pub invariant-loop-class : goal.invariant-loop-class
invariant-loop-class l = record {
  number : l.number ≡ length (methods_of (take l.class-index l.classes));
  sites : l.sites ≡ map (linked_site l.kinds) (makings (take l.class-index l.classes));
}
