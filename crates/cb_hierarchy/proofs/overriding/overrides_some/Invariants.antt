use Rattle.std.proofs.Common.{◌≡◌, false, take}
use Rattle.cb_hierarchy.specs.InnerFinals.{overrides_some}
use Rattle.cb_hierarchy.proofs.overriding.overrides_some.Given as goal

abbrev pub invariant-loop-other : goal.invariant-loop-other
invariant-loop-other l = overrides_some l.classes l.methods l.superclasses l.own (take l.other-index l.others) ≡ false
