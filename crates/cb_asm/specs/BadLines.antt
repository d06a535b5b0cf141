-- The first line of a text that is outside the format. Lines are counted from 1, and the line behind the last counts too:
-- it is the bad one of a text that stops early.
use Rattle.std.specs.Prelude.{◌≡◌, ℕ, ◌<◌, List, take, map}
use Rattle.cb_asm_line.specs.declared.program.Program.{Program}
use Rattle.cb_asm_line.specs.Lines.{line_text, lines_of}
use Rattle.cb_asm_line.specs.Spelling.{program_lines}
use Rattle.cb_asm_record.specs.Grammar.{IsProgram}

-- so many lines at the front of a text are those of a program. All of its lines and one more are those of a program that has
-- no others
abbrev pub BeginsAs : List ℕ → ℕ → Program → Type 0
BeginsAs text count program = take count (lines_of text) ≡ take count (map line_text (program_lines program))

-- the lines up to this one begin a text of the format
abbrev pub CanStand : List ℕ → ℕ → Type 0
CanStand text line = (program : Program) × IsProgram program × BeginsAs text line program

-- the least line up to which no text of the format has these lines. So a label that stands nowhere is found where the code
-- ends, and a branch forward that is out of reach where the last place that it reaches is passed
pub record IsFirstBadLine (text : List ℕ) (line : ℕ) : Type 0 where
  pub bad : ¬ CanStand text line
  pub stand : (before : ℕ) → 0 < before → before < line → CanStand text before
