use Rattle.std.proofs.Common.{◌≡◌, ◌++◌, take}
use Rattle.std.specs.List.{flat_map}
use Rattle.cb_asm_record.specs.Uses.{method_uses}
use Rattle.cb_asm_record.proofs.uses.use_methods.Given as goal

abbrev pub invariant-loop-method : goal.invariant-loop-method
invariant-loop-method l = l.uses ≡ l.initial.uses ++ flat_map method_uses (take l.method-index l.methods)
