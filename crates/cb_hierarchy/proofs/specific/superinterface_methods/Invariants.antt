use Rattle.std.proofs.Common.{◌≡◌, take}
use Rattle.cb_hierarchy.specs.InnerSpecific.{inherited_of}
use Rattle.cb_hierarchy.proofs.specific.superinterface_methods.Given as goal

abbrev pub invariant-loop-number : goal.invariant-loop-number
invariant-loop-number l = l.found ≡ inherited_of l.hierarchy l.methods l.signature (take l.number-index l.number-items)
