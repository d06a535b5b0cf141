use Rattle.std.proofs.Common.{◌≡◌, false, take}
use Rattle.cb_hierarchy.specs.InnerFinals.{implements_badly}
use Rattle.cb_hierarchy.proofs.bad.implements_badly.Given as goal

abbrev pub invariant-loop-other : goal.invariant-loop-other
invariant-loop-other l = implements_badly l.classes (take l.other-index l.interfaces) ≡ false
