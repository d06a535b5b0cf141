use Rattle.std.proofs.Common.{◌≡◌, None, map, take}
use Rattle.std.specs.List.{enumerate_from}
use Rattle.cb_hierarchy.specs.Resolution.{first_some}
use Rattle.cb_link.specs.InnerLacked.{entry_lacks}
use Rattle.cb_link.proofs.lacking.first_lacking.Given as goal

abbrev pub invariant-loop-class : goal.invariant-loop-class
invariant-loop-class l = record {
  number : l.number ≡ l.class-index;
  none : first_some (map (entry_lacks l.resolver) (take l.class-index (enumerate_from 0 l.class-items))) ≡ None;
}
