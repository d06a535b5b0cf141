use Rattle.std.proofs.Common.{◌≡◌, length}
use Rattle.cb_collection_cases.proofs.timed.collect_all.Given as goal

abbrev pub invariant-loop-part : goal.invariant-loop-part
invariant-loop-part l = length l.set ≡ length l.initial.set
