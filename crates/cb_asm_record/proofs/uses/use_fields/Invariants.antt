use Rattle.std.proofs.Common.{◌≡◌, ◌++◌, take}
use Rattle.std.specs.List.{flat_map}
use Rattle.cb_asm_record.specs.Uses.{field_uses}
use Rattle.cb_asm_record.proofs.uses.use_fields.Given as goal

abbrev pub invariant-loop-field : goal.invariant-loop-field
invariant-loop-field l = l.uses ≡ l.initial.uses ++ flat_map field_uses (take l.field-index l.fields)
