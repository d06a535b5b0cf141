use Rattle.std.proofs.Common.{◌≡◌, ◌++◌, take}
use Rattle.std.specs.List.{flat_map}
use Rattle.cb_insn.specs.Grammar.{s4, offset}
use Rattle.cb_insn.proofs.push.push_pairs.Given as goal

abbrev pub invariant-loop-pair : goal.invariant-loop-pair
invariant-loop-pair l = l.bytes.items ≡ l.initial.bytes.items ++ flat_map (λ pair. s4 pair.key ++ s4 (offset l.pc pair.target)) (take l.pair-index l.pairs)
