use Rattle.std.proofs.Common.{◌≡◌, take}
use Rattle.std.specs.List.{flat_map}
use Rattle.cb_kinds.specs.Texts.{entered_all}
use Rattle.cb_link.specs.Making.{class_texts}
use Rattle.cb_link.proofs.kinds.constants_of.Given as goal

abbrev pub invariant-loop-class : goal.invariant-loop-class
invariant-loop-class l = l.texts ≡ entered_all l.initial.texts (flat_map class_texts (take l.class-index l.classes))
