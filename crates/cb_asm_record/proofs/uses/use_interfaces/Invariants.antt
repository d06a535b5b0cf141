use Rattle.std.proofs.Common.{◌≡◌, ◌++◌, map, take}
use Rattle.cb_asm_record.specs.Entries.{Class}
use Rattle.cb_asm_record.proofs.uses.use_interfaces.Given as goal

abbrev pub invariant-loop-name : goal.invariant-loop-name
invariant-loop-name l = l.uses ≡ l.initial.uses ++ map Class (take l.name-index l.names)
