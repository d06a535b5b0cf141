use Rattle.std.proofs.Common.{◌≡◌, map, take}
use Rattle.cb_io.specs.Utf8.{utf8}
use Rattle.cb_link.specs.Numbers.{name_of}
use Rattle.cb_link.proofs.kind_table.names_of_classes.Given as goal

abbrev pub invariant-loop-class : goal.invariant-loop-class
invariant-loop-class l = l.names ≡ map (λ class. utf8 (name_of class)) (take l.class-index l.classes)
