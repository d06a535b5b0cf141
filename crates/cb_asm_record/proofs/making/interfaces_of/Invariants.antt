use Rattle.std.proofs.Common.{◌≡◌, map, take}
use Rattle.cb_asm_record.specs.Constants.{index_of}
use Rattle.cb_asm_record.specs.Entries.{Class}
use Rattle.cb_asm_record.proofs.making.interfaces_of.Given as goal

abbrev pub invariant-loop-name : goal.invariant-loop-name
invariant-loop-name l = l.indices ≡ map (λ name. index_of l.constants (Class name)) (take l.name-index l.names)
