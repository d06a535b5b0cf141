-- What private contracts and proofs cite: no public clause names this file.
use Rattle.std.specs.Prelude.{◌≡◌, ◌≢◌, ◌⊎◌, ℕ, ◌+◌, ◌≤◌, List, [], ◌∷◌, ◌++◌, length, map, Option, Some, None, IfSome}
use Rattle.std.specs.List.{AllByRecursion, flat_map}
use Rattle.cb_asm_line.specs.declared.frame.FrameLine.{FrameLine}
use Rattle.cb_asm_line.specs.declared.frame.FrameLine.TheVariants.{Full, Bad}
use Rattle.cb_asm_line.specs.declared.program.CodeText.{CodeText}
use Rattle.cb_asm_line.specs.declared.program.MethodText.{MethodText}
use Rattle.cb_asm_line.specs.declared.program.Program.{Program}
use Rattle.cb_asm_line.specs.declared.statement.Limits.{Limits}
use Rattle.cb_asm_line.specs.declared.statement.Statement.{Statement}
use Rattle.cb_asm_line.specs.declared.statement.Statement.TheVariants as statements
use Rattle.cb_asm_line.specs.Lines.{Lacks, Line, line_text, lines_text, newline}
use Rattle.cb_asm_line.specs.Spelling.{code_line, program_text}
use Rattle.cb_asm_line.specs.declared.program.CodeLine.TheVariants.{Here}
use Rattle.cb_asm_line.specs.Statements.{AreWhole, IsStatement, IsWhole, statement_text, method_statements, statements_of}
use Rattle.cb_asm_prefix.specs.Closing.{Close, CloseOpen, nop_lines}
use Rattle.cb_asm_record.specs.Grammar.{IsProgram}
use Rattle.cb_asm.specs.BadLines.{CanStand}

-- the line of a frame that isn't bad
abbrev pub frame_statement : FrameLine → Statement
frame_statement (Full frame) = statements.Frame frame
frame_statement Bad = statements.End

-- some statements begin with no part of a kind
abbrev pub BeginsWithNone : {Part : Type 0} → (Part → Statement) → (Part → Type 0) → List Statement → Type 0
BeginsWithNone {Part} said Keeps lines = (part : Part) (rest : List Statement) → Keeps part → lines ≢ said part ∷ rest

-- some parts of a kind stand before others
pub record TakesParts {Part : Type 0} (said : Part → Statement) (Keeps : Part → Type 0) (before now : List Statement) (parts : List Part) : Type 0 where
  pub stand : before ≡ map said parts ++ now
  pub kept : AllByRecursion Keeps parts
  pub none : BeginsWithNone said Keeps now

-- a method without a bad frame
abbrev pub IsMethod : MethodText → Type 0
IsMethod method = IfSome method.code AreWhole

-- the code of these limits stands before other lines, behind its own first one, and they begin with none of its
pub record IsLimited (limits : Limits) (before now : List Statement) (code : CodeText) : Type 0 where
  pub stack : code.stack ≡ limits.stack
  pub locals : code.locals ≡ limits.locals
  pub between : List Statement
  pub behind : List Statement
  pub lines : TakesParts statements.Code (λ _. Unit {0}) before between code.lines
  pub catches : TakesParts statements.Catch (λ _. Unit {0}) between behind code.catches
  pub frames : TakesParts frame_statement IsWhole behind now code.frames

-- the text of some lines
abbrev pub said_text : List Statement → List ℕ
said_text lines = flat_map (λ line. statement_text line ++ newline ∷ []) lines

-- a text is that of a program
pub record IsProgramText (text : List ℕ) : Type 0 where
  pub program : Program
  pub is : IsProgram program
  pub spelled : text ≡ program_text program

-- the lines of labels, of an instruction that does nothing, and of the end of a method, as a text
abbrev pub label_text : List ℕ → List ℕ
label_text label = line_text (code_line (Here label))

abbrev pub label_lines_text : List (List ℕ) → List ℕ
label_lines_text labels = flat_map label_text labels ++ lines_text nop_lines

-- a text begins a text of the format
pub record Begins (front : List ℕ) : Type 0 where
  pub program : Program
  pub is : IsProgram program
  pub rest : List ℕ
  pub spelled : program_text program ≡ front ++ rest

-- and is all of it with this behind it
pub record ClosesWith (front closing : List ℕ) : Type 0 where
  pub program : Program
  pub is : IsProgram program
  pub spelled : program_text program ≡ front ++ closing

-- it is no lines that close, or that close where code is open
abbrev pub ClosesNot : List ℕ → Type 0
ClosesNot front = (lines : List Line) → front ≡ lines_text lines → ¬ Close lines

abbrev pub OpensNot : List ℕ → Type 0
OpensNot front = (lines : List Line) → front ≡ lines_text lines → ¬ CloseOpen lines

-- lines with their newlines, and the places behind them from a place on
abbrev pub ended : List (List ℕ) → List ℕ
ended lines = flat_map (λ line. line ++ newline ∷ []) lines

abbrev pub ends_from : ℕ → List (List ℕ) → List ℕ
ends_from place [] = []
ends_from place (line ∷ lines) = (place + (length line + 1)) ∷ ends_from (place + (length line + 1)) lines

-- these are the places behind the newlines of a text
pub record AreEnds (text ends : List ℕ) : Type 0 where
  pub lines : List (List ℕ)
  pub rest : List ℕ
  pub whole : AllByRecursion (Lacks newline) lines
  pub last : Lacks newline rest
  pub cut : text ≡ ended lines ++ rest
  pub are : ends ≡ ends_from 0 lines

-- so many lines can stand, or none are meant
abbrev pub StandTo : List ℕ → ℕ → Type 0
StandTo text count = (count ≡ 0) ⊎ CanStand text count
