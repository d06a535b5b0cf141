use Rattle.std.proofs.Common.{◌≡◌, take}
use Rattle.std.specs.List.{flat_map}
use Rattle.cb_kinds.specs.Texts.{entered_all}
use Rattle.cb_link.specs.Making.{class_kinds}
use Rattle.cb_link.proofs.kinds.kinds_of.Given as goal

abbrev pub invariant-loop-class : goal.invariant-loop-class
invariant-loop-class l = l.names ≡ entered_all l.initial.names (flat_map class_kinds (take l.class-index l.classes))
