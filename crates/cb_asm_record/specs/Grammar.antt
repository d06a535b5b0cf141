-- Which texts are in the format, and the record of each.
use Rattle.std.specs.Prelude.{◌≡◌, ◌≢◌, ℕ, List, [], ◌∷◌, map, IfSome, IsSome}
use Rattle.std.specs.List.{AllByRecursion, AllPairs}
use Rattle.cb_insn.specs.Places.{Rise}
use Rattle.cb_classfile.specs.declared.class.ClassFile.{ClassFile}
use Rattle.cb_classfile.specs.Class.{IsWellFormed}
use Rattle.cb_asm_line.specs.declared.operand.Operand.{Operand}
use Rattle.cb_asm_line.specs.declared.program.CodeLine.{CodeLine}
use Rattle.cb_asm_line.specs.declared.program.CatchLine.{CatchLine}
use Rattle.cb_asm_line.specs.declared.frame.FrameType.{FrameType}
use Rattle.cb_asm_line.specs.declared.frame.FrameLine.{FrameLine}
use Rattle.cb_asm_line.specs.declared.program.CodeText.{CodeText}
use Rattle.cb_asm_line.specs.declared.program.Program.{Program}
use Rattle.cb_asm_line.specs.declared.operand.Operand.TheVariants.{Branch, Table, Lookup}
use Rattle.cb_asm_line.specs.declared.program.CodeLine.TheVariants.{Here, Do}
use Rattle.cb_asm_line.specs.declared.frame.FrameType.TheVariants.{New}
use Rattle.cb_asm_line.specs.declared.frame.FrameLine.TheVariants.{Full, Bad}
use Rattle.cb_asm_line.specs.Label.{Label}
use Rattle.cb_asm_line.specs.Spelling.{program_text}
use Rattle.cb_asm_line.specs.Statements.{HasLines}
use Rattle.cb_asm_record.specs.Labels.{labels_from, place_of, place_at}
use Rattle.cb_asm_record.specs.Record.{class_of}

-- the labels that an operand names
abbrev pub labels_of : Operand → List Label
labels_of (Branch label) = label ∷ []
labels_of (Table low default labels) = default ∷ labels
labels_of (Lookup default pairs) = default ∷ map (λ pair. pair.1) pairs
labels_of other = []

-- the code has the label
abbrev pub HasLabel : List CodeLine → Label → Type 0
HasLabel lines label = IsSome (place_of lines label)

abbrev pub LineHasLabels : List CodeLine → CodeLine → Type 0
LineHasLabels lines (Here label) = Unit {0}
LineHasLabels lines (Do instruction) = AllByRecursion (HasLabel lines) (labels_of instruction.operand)

abbrev pub CatchHasLabels : List CodeLine → CatchLine → Type 0
CatchHasLabels lines entry = HasLabel lines entry.start × HasLabel lines entry.end × HasLabel lines entry.handler

abbrev pub TypeHasLabel : List CodeLine → FrameType Label → Type 0
TypeHasLabel lines (New label) = HasLabel lines label
TypeHasLabel lines other = Unit {0}

abbrev pub FrameHasLabels : List CodeLine → FrameLine → Type 0
FrameHasLabels lines (Full frame) =
    HasLabel lines frame.place × AllByRecursion (TypeHasLabel lines) frame.locals × AllByRecursion (TypeHasLabel lines) frame.stack
FrameHasLabels lines Bad = ⊥

abbrev pub frame_places : List CodeLine → List FrameLine → List ℕ
frame_places lines [] = []
frame_places lines (Full frame ∷ frames) = place_at lines frame.place ∷ frame_places lines frames
frame_places lines (Bad ∷ frames) = frame_places lines frames

-- what stands in code: a label stands once, each label that is named stands, and the frames stand one behind the other
pub record IsCode (code : CodeText) : Type 0 where
  pub once : AllPairs (λ one other. one.0 ≢ other.0) (labels_from 0 code.lines)
  pub lines : AllByRecursion (LineHasLabels code.lines) code.lines
  pub catches : AllByRecursion (CatchHasLabels code.lines) code.catches
  pub frames : AllByRecursion (FrameHasLabels code.lines) code.frames
  pub ascending : Rise (frame_places code.lines code.frames)

abbrev pub HasCode : Program → Type 0
HasCode program = AllByRecursion (λ method. IfSome method.code IsCode) program.methods

-- the lines of a program are of the format, its labels stand as they should, and its record is well formed
pub record IsProgram (program : Program) : Type 0 where
  pub lines : HasLines program
  pub code : HasCode program
  pub formed : IsWellFormed (class_of program)

-- the text is in the format, and this is its record: it is the text of a program, and the record is the program's
pub record Assembles (text : List ℕ) (class : ClassFile) : Type 0 where
  pub program : Program
  pub is : IsProgram program
  pub spelled : text ≡ program_text program
  pub recorded : class ≡ class_of program
