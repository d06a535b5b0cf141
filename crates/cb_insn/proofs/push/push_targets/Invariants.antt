use Rattle.std.proofs.Common.{◌≡◌, ◌++◌, take}
use Rattle.std.specs.List.{flat_map}
use Rattle.cb_insn.specs.Grammar.{s4, offset}
use Rattle.cb_insn.proofs.push.push_targets.Given as goal

abbrev pub invariant-loop-target : goal.invariant-loop-target
invariant-loop-target l = l.bytes.items ≡ l.initial.bytes.items ++ flat_map (λ target. s4 (offset l.pc target)) (take l.target-index l.targets)
