-- The words of the faults.
use Rattle.std.specs.Prelude.{ℕ, List, ◌++◌, codes}
use Rattle.std.specs.Fmt.{decimal}
use Rattle.cb_insn.specs.declared.fault.InsnFault.{InsnFault}
use Rattle.cb_insn.specs.declared.fault.InsnFault.TheVariants.{BadOpcode, BadOperand, Cut, BadTarget, OutOfMemory}

abbrev pub fault_text : InsnFault → List ℕ
fault_text (BadOpcode pc) = codes "no instruction's opcode at " ++ decimal pc
fault_text (BadOperand pc) = codes "an operand out of its bounds at " ++ decimal pc
fault_text (Cut pc) = codes "the instruction at " ++ decimal pc ++ codes " is cut"
fault_text (BadTarget pc) = codes "a target in no instruction's place at " ++ decimal pc
fault_text OutOfMemory = codes "out of memory"
