-- How lines that begin a program are closed, so that they are all of one.
use Rattle.std.specs.Prelude.{◌≡◌, ◌≢◌, ◌⊎◌, List, [], ◌∷◌, ◌++◌, map, Option, Some, None, Contains, codes}
use Rattle.std.specs.List.{AllByRecursion, AllPairs, flat_map}
use Rattle.cb_asm_line.specs.declared.program.CodeLine.{CodeLine}
use Rattle.cb_asm_line.specs.declared.program.CodeLine.TheVariants.{Here, Do}
use Rattle.cb_asm_line.specs.declared.program.CodeText.{CodeText}
use Rattle.cb_asm_line.specs.declared.program.MethodText.{MethodText}
use Rattle.cb_asm_line.specs.declared.program.Program.{Program}
use Rattle.cb_asm_line.specs.Label.{Label}
use Rattle.cb_asm_line.specs.Lines.{Line}
use Rattle.cb_asm_line.specs.Spelling.{code_line, end_line, program_lines}
use Rattle.cb_asm_line.specs.Statements.{HasLines}
use Rattle.cb_asm_record.specs.Grammar.{HasLabel, IsProgram, labels_of}

-- some lines and what closes them are those of a program
pub record CloseWith (lines closing : List Line) : Type 0 where
  pub program : Program
  pub is : IsProgram program
  pub spelled : program_lines program ≡ lines ++ closing

-- the lines of an instruction that does nothing and the end of a method, and of the limits of such code
abbrev pub nop_lines : List Line
nop_lines = (codes "nop" ∷ []) ∷ end_line ∷ []

abbrev pub limits_lines : List Line
limits_lines = (codes "limits" ∷ codes "0" ∷ codes "0" ∷ []) ∷ nop_lines

-- the lines of the code of the last method, or none
abbrev pub code_lines_of : Option CodeText → List CodeLine
code_lines_of None = []
code_lines_of (Some code) = code.lines

abbrev pub last_code : List MethodText → List CodeLine
last_code [] = []
last_code (method ∷ []) = code_lines_of method.code
last_code (method ∷ next ∷ methods) = last_code (next ∷ methods)

-- the labels that instructions name
abbrev pub line_labels : CodeLine → List Label
line_labels (Here label) = []
line_labels (Do instruction) = labels_of instruction.operand

abbrev pub named_labels : List CodeLine → List Label
named_labels lines = flat_map line_labels lines

-- these labels, each once, are those that instructions name and that don't stand among the lines
pub record AreOpen (lines : List CodeLine) (labels : List Label) : Type 0 where
  pub once : AllPairs (λ one other. one ≢ other) labels
  pub named : AllByRecursion (λ label. Contains (named_labels lines) label × (¬ HasLabel lines label)) labels
  pub all : AllByRecursion (λ label. HasLabel lines label ⊎ Contains labels label) (named_labels lines)

-- with an instruction and an end the lines are all that a program has, and with its open labels before these they are
-- those of a program
pub record CloseOpen (lines : List Line) : Type 0 where
  pub program : Program
  pub lines_are : HasLines program
  pub spelled : program_lines program ≡ lines ++ nop_lines
  pub closed : (labels : List Label) → AreOpen (last_code program.methods) labels
      → CloseWith lines (map (λ label. code_line (Here label)) labels ++ nop_lines)

-- lines close in one of four ways: they are all of a program; a method ends; code that is open gets its labels, an
-- instruction and its end; or a method gets its code
pub data Close (lines : List Line) : Type 0 where
  Whole : CloseWith lines [] → Close lines
  End : CloseWith lines (end_line ∷ []) → Close lines
  Open : CloseOpen lines → Close lines
  Limits : CloseWith lines limits_lines → Close lines
