use Rattle.std.proofs.Common.{◌≡◌, map, take}
use Rattle.cb_link.specs.InnerRanks.{package_name}
use Rattle.cb_link.proofs.ranked.package_names.Given as goal

abbrev pub invariant-loop-class : goal.invariant-loop-class
invariant-loop-class l = l.names ≡ map package_name (take l.class-index l.classes)
