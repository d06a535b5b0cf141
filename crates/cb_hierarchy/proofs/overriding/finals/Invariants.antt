use Rattle.std.proofs.Common.{◌≡◌, length, vec_len}
use Rattle.cb_hierarchy.specs.InnerFinals.{AreFinals}
use Rattle.cb_hierarchy.proofs.overriding.finals.Given as goal

abbrev pub invariant-loop-number : goal.invariant-loop-number
invariant-loop-number l = record { as_many : vec_len l.lists ≡ length l.methods; finals : AreFinals l.methods l.number l.lists.items }
