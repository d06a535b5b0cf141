use Rattle.std.proofs.Common.{◌≡◌, map, take}
use Rattle.cb_asm_record.specs.Record.{field_of}
use Rattle.cb_asm_record.proofs.member.fields_of.Given as goal

abbrev pub invariant-loop-text : goal.invariant-loop-text
invariant-loop-text l = l.fields ≡ map (field_of l.constants) (take l.text-index l.texts)
