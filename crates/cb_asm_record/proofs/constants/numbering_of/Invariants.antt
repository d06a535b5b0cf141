use Rattle.std.proofs.Common.{map, take}
use Rattle.std.specs.List.{flat_map}
use Rattle.cb_asm_record.specs.Entries.{with_parts}
use Rattle.cb_asm_record.specs.Inner.{Holds, key_entry}
use Rattle.cb_asm_record.proofs.constants.numbering_of.Given as goal

abbrev pub invariant-loop-key : goal.invariant-loop-key
invariant-loop-key l = Holds (flat_map with_parts (map key_entry (take l.key-index l.keys))) l.numbering.pool l.numbering.indices
