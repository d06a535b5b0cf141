use Rattle.std.proofs.Common.{◌≡◌, ◌++◌, take}
use Rattle.cb_link.proofs.lacked.text_of.Given as goal

abbrev pub invariant-loop-unit : goal.invariant-loop-unit
invariant-loop-unit l = l.text ≡ l.name ++ take l.unit-index l.descriptor
