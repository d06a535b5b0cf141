use Rattle.std.proofs.Common.{◌≡◌, map, take}
use Rattle.cb_kinds.specs.Basics.{kind_number}
use Rattle.cb_link.specs.Numbers.{name_of}
use Rattle.cb_link.proofs.kind_table.kinds_of_classes.Given as goal

abbrev pub invariant-loop-class : goal.invariant-loop-class
invariant-loop-class l = l.numbers ≡ map (λ class. kind_number l.kinds (name_of class)) (take l.class-index l.classes)
