use Rattle.std.proofs.Common.{◌≡◌, ◌-◌, map, None, take}
use Rattle.cb_classfile.specs.Profile.{first_of, constant_item}
use Rattle.cb_classfile.proofs.profile.constants_item.Given as goal

abbrev pub invariant-loop-index : goal.invariant-loop-index
invariant-loop-index l = first_of (map (constant_item l.constants) (take (l.index - 1) l.constants)) ≡ None
