use Rattle.std.proofs.Common.{◌≡◌, map, take}
use Rattle.cb_link.specs.Numbers.{name_of}
use Rattle.cb_link.proofs.ranked.class_names.Given as goal

abbrev pub invariant-loop-class : goal.invariant-loop-class
invariant-loop-class l = l.names ≡ map name_of (take l.class-index l.classes)
