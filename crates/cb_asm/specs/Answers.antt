-- What the answers of `assemble` rest on.
use Rattle.std.specs.Prelude.{◌≡◌, ℕ, ◌-◌, ◌^◌, min, List}
use Rattle.cb_classfile.specs.declared.class.ClassFile.{ClassFile}
use Rattle.cb_asm.specs.declared.fault.AsmFault.{AsmFault}
use Rattle.cb_asm.specs.declared.fault.AsmFault.TheVariants.{BadLine, OutOfMemory}
use Rattle.cb_asm.specs.BadLines.{IsFirstBadLine}
use Rattle.cb_asm_record.specs.Grammar.{Assembles}

-- the greatest number of a line that is told
abbrev pub greatest_line : ℕ
greatest_line = 2 ^ 32 - 1

-- no record is that of the text, and this line is its first bad one, or the greatest that is told where that is behind it
pub record StopsAt (text : List ℕ) (line : ℕ) : Type 0 where
  pub none : (class : ClassFile) → ¬ Assembles text class
  pub number : ℕ
  pub first : IsFirstBadLine text number
  pub told : line ≡ min number greatest_line

abbrev pub StandsUnassembled : List ℕ → AsmFault → Type 0
StandsUnassembled text (BadLine line) = StopsAt text line
StandsUnassembled text OutOfMemory = Unit {0}
