use Rattle.std.proofs.Common.{◌≡◌, ◌++◌, take}
use Rattle.std.specs.List.{flat_map}
use Rattle.cb_asm_record.specs.Uses.{type_uses}
use Rattle.cb_asm_record.proofs.uses.use_types.Given as goal

abbrev pub invariant-loop-kind : goal.invariant-loop-kind
invariant-loop-kind l = l.uses ≡ l.initial.uses ++ flat_map type_uses (take l.kind-index l.types)
