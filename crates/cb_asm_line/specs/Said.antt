-- What lines say, one by one: no public clause names this file.
use Rattle.std.specs.Prelude.{◌≡◌, ℕ, ℤ, FitsSigned, ◌^◌, ◌<◌, List, Option, Some, None, codes, [], ◌∷◌, ◌++◌}
use Rattle.cb_asm_line.specs.Flags.{class_flags, field_flags, flags_word, method_flags}
use Rattle.cb_asm_line.specs.Lines.{Line, Word}
use Rattle.cb_asm_line.specs.Numbers.{IsDecimal, decimal, signed_decimal}
use Rattle.cb_asm_line.specs.Operands.{label_word}
use Rattle.cb_asm_line.specs.Quoting.{any_name, colon, name_word, no_name, quoted}
use Rattle.cb_asm_line.specs.declared.program.CatchLine.{CatchLine}
use Rattle.cb_asm_line.specs.declared.statement.ClassLine.{ClassLine}
use Rattle.cb_asm_line.specs.declared.program.FieldText.{FieldText}
use Rattle.cb_asm_line.specs.declared.operand.Value.{Value}
use Rattle.cb_asm_line.specs.declared.operand.Value.TheVariants.{Int, Long, Text, Class}
use Rattle.std.specs.Int.{w32, w64}
use Rattle.cb_asm_line.specs.declared.statement.Limits.{Limits}
use Rattle.cb_asm_line.specs.declared.statement.MethodLine.{MethodLine}
use Rattle.cb_text.specs.Text.{AreUnits}

-- a word is a name, a name or what stands in its place, access flags, and a label
pub record IsName (word : Word) (name : List ℕ) : Type 0 where
  pub units : AreUnits name
  pub spelled : word ≡ name_word name

abbrev pub IsNameOr : Word → Word → Option (List ℕ) → Type 0
IsNameOr none word None = word ≡ none
IsNameOr none word (Some name) = IsName word name

pub record AreFlags (words : List Word) (word : Word) (flags : ℕ) : Type 0 where
  pub fit : flags < 2 ^ 16
  pub spelled : word ≡ flags_word words flags

pub record IsSmall (word : Word) (number : ℕ) : Type 0 where
  pub fits : number < 2 ^ 16
  pub spelled : word ≡ decimal number

pub record IsLabel (word : Word) (label : List ℕ) : Type 0 where
  pub digits : IsDecimal label
  pub spelled : word ≡ label_word label

pub record IsHere (word : Word) (label : List ℕ) : Type 0 where
  pub digits : IsDecimal label
  pub spelled : word ≡ label_word label ++ colon ∷ []

pub record IsInt (word : Word) (number : ℤ) : Type 0 where
  pub fits : FitsSigned w32 number
  pub spelled : word ≡ signed_decimal number

pub record IsLong (word : Word) (number : ℤ) : Type 0 where
  pub fits : FitsSigned w64 number
  pub spelled : word ≡ signed_decimal number

pub record IsText (word : Word) (text : List ℕ) : Type 0 where
  pub units : AreUnits text
  pub spelled : word ≡ quoted text

-- a word for the kind of a constant, and one for the constant
abbrev pub SaysValue : Word → Word → Value → Type 0
SaysValue kind word (Int number) = (kind ≡ codes "int") × IsInt word number
SaysValue kind word (Long number) = (kind ≡ codes "long") × IsLong word number
SaysValue kind word (Text text) = (kind ≡ codes "text") × IsText word text
SaysValue kind word (Class name) = (kind ≡ codes "class") × IsName word name

abbrev pub SaysTextOrClass : Word → Word → Value → Type 0
SaysTextOrClass kind word (Text text) = (kind ≡ codes "text") × IsText word text
SaysTextOrClass kind word (Class name) = (kind ≡ codes "class") × IsName word name
SaysTextOrClass kind word other = ⊥

pub record SaysField (set own type : Word) (value : Option Value) (line : FieldText) : Type 0 where
  pub flags : AreFlags field_flags set line.flags
  pub name : IsName own line.name
  pub descriptor : IsName type line.descriptor
  pub has : line.value ≡ value

-- the words behind the first of a line of each kind
pub record SaysClass (version set own above : Word) (line : ClassLine) : Type 0 where
  pub major : IsSmall version line.major
  pub flags : AreFlags class_flags set line.flags
  pub name : IsName own line.name
  pub superclass : IsNameOr no_name above line.superclass

pub record SaysMethod (set own type : Word) (line : MethodLine) : Type 0 where
  pub flags : AreFlags method_flags set line.flags
  pub name : IsName own line.name
  pub descriptor : IsName type line.descriptor

pub record SaysLimits (deep wide : Word) (line : Limits) : Type 0 where
  pub stack : IsSmall deep line.stack
  pub locals : IsSmall wide line.locals

pub record SaysCatch (from behind to caught : Word) (line : CatchLine) : Type 0 where
  pub start : IsLabel from line.start
  pub end : IsLabel behind line.end
  pub handler : IsLabel to line.handler
  pub class : IsNameOr any_name caught line.class

-- so many words, which say this
pub record One {T : Type 0} (Says : Word → T → Type 0) (words : Line) (line : T) : Type 0 where
  pub first : Word
  pub are : words ≡ first ∷ []
  pub says : Says first line

pub record Two {T : Type 0} (Says : Word → Word → T → Type 0) (words : Line) (line : T) : Type 0 where
  pub first : Word
  pub second : Word
  pub are : words ≡ first ∷ second ∷ []
  pub says : Says first second line

pub record Three {T : Type 0} (Says : Word → Word → Word → T → Type 0) (words : Line) (line : T) : Type 0 where
  pub first : Word
  pub second : Word
  pub third : Word
  pub are : words ≡ first ∷ second ∷ third ∷ []
  pub says : Says first second third line

pub record Four {T : Type 0} (Says : Word → Word → Word → Word → T → Type 0) (words : Line) (line : T) : Type 0 where
  pub first : Word
  pub second : Word
  pub third : Word
  pub fourth : Word
  pub are : words ≡ first ∷ second ∷ third ∷ fourth ∷ []
  pub says : Says first second third fourth line

-- the words of a constant, if there are any
abbrev pub SaysOptional : Line → Option Value → Type 0
SaysOptional words None = words ≡ []
SaysOptional words (Some value) = Two SaysValue words value

pub record IsField (words : Line) (line : FieldText) : Type 0 where
  pub first : Word
  pub second : Word
  pub third : Word
  pub rest : Line
  pub are : words ≡ first ∷ second ∷ third ∷ rest
  pub says : SaysField first second third line.value line
  pub value : SaysOptional rest line.value
