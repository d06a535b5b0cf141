use Rattle.std.proofs.Common.{◌≡◌, take}
use Rattle.std.specs.List.{flat_map}
use Rattle.cb_link.specs.InnerRanks.{texts_of_methods}
use Rattle.cb_link.proofs.ranked.method_texts.Given as goal

abbrev pub invariant-loop-class : goal.invariant-loop-class
invariant-loop-class l = l.texts ≡ flat_map texts_of_methods (take l.class-index l.classes)
