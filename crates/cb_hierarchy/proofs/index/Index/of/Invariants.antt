use Rattle.std.proofs.Common.{◌≡◌, map, take}
use Rattle.std.specs.HashMap.{get}
use Rattle.cb_hierarchy.specs.InnerIndex.{IsIndexOf, same_member}
use Rattle.cb_hierarchy.proofs.index.Index.of.Given as goal

abbrev pub invariant-loop-member : goal.invariant-loop-member
invariant-loop-member g l = (l.number ≡ l.member-index) × IsIndexOf (map g.T.Member.declared (take l.member-index l.members)) (get same_member l.numbers)
