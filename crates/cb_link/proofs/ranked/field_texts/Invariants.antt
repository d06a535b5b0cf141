use Rattle.std.proofs.Common.{◌≡◌, take}
use Rattle.std.specs.List.{flat_map}
use Rattle.cb_link.specs.InnerRanks.{texts_of_fields}
use Rattle.cb_link.proofs.ranked.field_texts.Given as goal

abbrev pub invariant-loop-class : goal.invariant-loop-class
invariant-loop-class l = l.texts ≡ flat_map texts_of_fields (take l.class-index l.classes)
