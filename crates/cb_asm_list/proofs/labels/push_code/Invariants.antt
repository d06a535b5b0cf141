use Rattle.std.proofs.Common.{◌≡◌, ◌++◌, take}
use Rattle.std.specs.List.{flat_map}
use Rattle.cb_insn.specs.Grammar.{targets_of}
use Rattle.cb_asm_list.proofs.labels.push_code.Given as goal

abbrev pub invariant-loop-placed : goal.invariant-loop-placed
invariant-loop-placed l = l.places ≡ l.initial.places ++ flat_map (λ placed. targets_of placed.1.operand) (take l.placed-index l.code)
