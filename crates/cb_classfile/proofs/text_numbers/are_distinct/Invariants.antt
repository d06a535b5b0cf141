use Rattle.std.specs.BTreeSet.{contains}
use Rattle.std.specs.Ordering.{nat_cmp, ordering_then}
use Rattle.cb_classfile.proofs.Distinct.{Seen}
use Rattle.cb_classfile.proofs.text_numbers.are_distinct.Given as goal

abbrev pub invariant-loop-pair : goal.invariant-loop-pair
invariant-loop-pair l = Seen l.pairs l.pair-index (contains (λ one other. ordering_then (nat_cmp one.0 other.0) (nat_cmp one.1 other.1)) l.seen)
