use Rattle.std.proofs.Common.{◌≡◌, map, None, take}
use Rattle.cb_classfile.specs.Profile.{first_of}
use Rattle.cb_classfile.proofs.profile.first_item.Given as goal

abbrev pub invariant-loop-part : goal.invariant-loop-part
invariant-loop-part g l = first_of (map (g.T.Part.item l.constants) (take l.part-index l.parts)) ≡ None
