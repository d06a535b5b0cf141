use Rattle.std.proofs.Common.{◌≡◌, ◌++◌, take}
use Rattle.std.specs.List.{flat_map}
use Rattle.cb_asm_record.specs.Uses.{class_use}
use Rattle.cb_asm_record.proofs.uses.use_catches.Given as goal

abbrev pub invariant-loop-entry : goal.invariant-loop-entry
invariant-loop-entry l = l.uses ≡ l.initial.uses ++ flat_map (λ entry. class_use entry.class) (take l.entry-index l.catches)
