use Rattle.std.proofs.Common.{◌≡◌, map, take}
use Rattle.cb_kinds.specs.Texts.{entered_all}
use Rattle.cb_link.specs.Numbers.{name_of}
use Rattle.cb_link.proofs.kinds.enter_names.Given as goal

abbrev pub invariant-loop-class : goal.invariant-loop-class
invariant-loop-class l = l.names ≡ entered_all l.initial.names (map name_of (take l.class-index l.classes))
