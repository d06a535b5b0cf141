-- What the words of any line say, by the first: no public clause names this file.
use Rattle.std.specs.Prelude.{◌≡◌, ◌⊎◌, codes, [], ◌∷◌}
use Rattle.cb_asm_line.specs.Lines.{Line, Word}
use Rattle.cb_asm_line.specs.Said.{Four, IsField, IsName, One, SaysCatch, SaysClass, SaysLimits, SaysMethod, Three, Two}
use Rattle.cb_asm_line.specs.SaidCode.{SaysCode}
use Rattle.cb_asm_line.specs.SaidFrames.{SaysFrame}
use Rattle.cb_asm_line.specs.Statements.{IsStatement, statement_words}
use Rattle.cb_asm_line.specs.declared.statement.Statement.{Statement}
use Rattle.cb_asm_line.specs.declared.statement.Statement.TheVariants as statements

-- outside a method
abbrev pub SaysOutside : Word → Line → Statement → Type 0
SaysOutside key rest (statements.Class line) = (key ≡ codes "class") × Four SaysClass rest line
SaysOutside key rest (statements.Implements name) = (key ≡ codes "implements") × One IsName rest name
SaysOutside key rest (statements.Field line) = (key ≡ codes "field") × IsField rest line
SaysOutside key rest other = ⊥

-- of a method
abbrev pub SaysInside : Word → Line → Statement → Type 0
SaysInside key rest (statements.Method line) = (key ≡ codes "method") × Three SaysMethod rest line
SaysInside key rest (statements.Limits line) = (key ≡ codes "limits") × Two SaysLimits rest line
SaysInside key rest (statements.Catch line) = (key ≡ codes "catch") × Four SaysCatch rest line
SaysInside key rest statements.End = (key ≡ codes "end") × (rest ≡ [])
SaysInside key rest other = ⊥

-- a frame, and a line of code
abbrev pub SaysFrameLine : Word → Line → Statement → Type 0
SaysFrameLine key rest (statements.Frame frame) = (key ≡ codes "frame") × SaysFrame rest frame
SaysFrameLine key rest other = ⊥

abbrev pub SaysCodeLine : Line → Statement → Type 0
SaysCodeLine words (statements.Code line) = SaysCode words line
SaysCodeLine words other = ⊥

-- by the first word, and those behind it
abbrev pub SaysKeyed : Word → Line → Statement → Type 0
SaysKeyed key rest statement = SaysOutside key rest statement ⊎ SaysInside key rest statement ⊎ SaysFrameLine key rest statement

pub record SaysAtKey (words : Line) (statement : Statement) : Type 0 where
  pub key : Word
  pub rest : Line
  pub are : words ≡ key ∷ rest
  pub says : SaysKeyed key rest statement

abbrev pub Says : Line → Statement → Type 0
Says words statement = SaysAtKey words statement ⊎ SaysCodeLine words statement

-- the words are those of a line of the format
pub record IsSpelled (words : Line) (statement : Statement) : Type 0 where
  pub is : IsStatement statement
  pub are : words ≡ statement_words statement
