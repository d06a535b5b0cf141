-- The words of the faults.
use Rattle.std.specs.Prelude.{ℕ, List, ◌++◌, codes}
use Rattle.cb_asm.specs.declared.fault.AsmFault.{AsmFault}
use Rattle.cb_asm.specs.declared.fault.AsmFault.TheVariants.{BadLine, OutOfMemory}
use Rattle.cb_asm_line.specs.Numbers.{decimal}

abbrev pub fault_text : AsmFault → List ℕ
fault_text (BadLine line) = codes "bad line " ++ decimal line
fault_text OutOfMemory = codes "out of memory"
