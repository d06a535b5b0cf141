-- What the words of a line of code say: no public clause names this file.
use Rattle.std.specs.Prelude.{◌≡◌, ◌⊎◌, Bool, true, false, ℕ, ℤ, FitsSigned, ◌^◌, ◌<◌, ◌≤◌, List, Option, Some, None, codes, [], ◌∷◌, map, slice_get}
use Rattle.std.specs.Int.{w16, w32}
use Rattle.std.specs.List.{AllByRecursion, flat_map}
use Rattle.cb_text.specs.declared.naming.MemberKind.{MemberKind}
use Rattle.cb_text.specs.declared.naming.MemberKind.TheVariants as kinds
use Rattle.cb_insn.specs.Forms.{head_form}
use Rattle.cb_insn.specs.declared.form.Form.{Form}
use Rattle.cb_insn.specs.declared.form.Form.TheVariants as forms
use Rattle.cb_classfile.specs.Needed.{kind_needed}
use Rattle.cb_classfile.specs.declared.needed.ConstantKind.{ConstantKind}
use Rattle.cb_classfile.specs.declared.needed.ConstantKind.TheVariants as needed
use Rattle.cb_asm_line.specs.Label.{Label}
use Rattle.cb_asm_line.specs.Lines.{Line, Word}
use Rattle.cb_asm_line.specs.Mnemonics.{mnemonics}
use Rattle.cb_asm_line.specs.Numbers.{IsDecimal, decimal, signed_decimal}
use Rattle.cb_asm_line.specs.Operands.{array_type, label_word}
use Rattle.cb_asm_line.specs.Said.{IsHere, IsInt, IsLabel, IsName, IsSmall, One, SaysValue, Three, Two}
use Rattle.cb_asm_line.specs.declared.operand.Instruction.{Instruction}
use Rattle.cb_asm_line.specs.declared.operand.MemberText.{MemberText}
use Rattle.cb_asm_line.specs.declared.operand.Operand.{Operand}
use Rattle.cb_asm_line.specs.declared.operand.Operand.TheVariants.{Nothing, Number, Local, Increase, Load, Member, Class, Array, Dimensions, Branch, Table, Lookup}
use Rattle.cb_asm_line.specs.declared.program.CodeLine.{CodeLine}
use Rattle.cb_asm_line.specs.declared.program.CodeLine.TheVariants.{Here, Do}

-- numbers of other sizes, and the code of a primitive type
pub record IsShort (word : Word) (number : ℤ) : Type 0 where
  pub fits : FitsSigned w16 number
  pub spelled : word ≡ signed_decimal number

pub record IsByte (word : Word) (number : ℕ) : Type 0 where
  pub fits : number < 2 ^ 8
  pub spelled : word ≡ decimal number

pub record IsArrayType (word : Word) (code : ℕ) : Type 0 where
  pub least : 4 ≤ code
  pub most : code ≤ 11
  pub spelled : word ≡ array_type code

-- a local and what is added to it; a class and a number of dimensions
pub record SaysIncrease (first second : Word) (pair : ℕ × ℤ) : Type 0 where
  pub local : IsSmall first pair.0
  pub by : IsShort second pair.1

pub record SaysDimensions (first second : Word) (pair : List ℕ × ℕ) : Type 0 where
  pub class : IsName first pair.0
  pub dimensions : IsByte second pair.1

-- a field or method by its three names; one of an interface, with a word before them; and either
pub record SaysMember (kind : MemberKind) (first second third : Word) (member : MemberText) : Type 0 where
  pub is : member.kind ≡ kind
  pub class : IsName first member.class
  pub name : IsName second member.name
  pub descriptor : IsName third member.descriptor

pub record SaysInterface (words : Line) (member : MemberText) : Type 0 where
  pub rest : Line
  pub are : words ≡ codes "interface" ∷ rest
  pub says : Three (SaysMember kinds.InterfaceMethod) rest member

abbrev pub SaysAnyMethod : Line → MemberText → Type 0
SaysAnyMethod words member = SaysInterface words member ⊎ Three (SaysMember kinds.Method) words member

-- labels, and numbers each with one
pub record AreLabels (words : Line) (labels : List Label) : Type 0 where
  pub each : AllByRecursion IsDecimal labels
  pub are : words ≡ map label_word labels

abbrev pub pair_words : ℤ × Label → Line
pair_words pair = signed_decimal pair.0 ∷ label_word pair.1 ∷ []

pub record SaysPair (first second : Word) (pair : ℤ × Label) : Type 0 where
  pub key : IsInt first pair.0
  pub label : IsLabel second pair.1

pub record ArePairs (words : Line) (pairs : List (ℤ × Label)) : Type 0 where
  pub each : AllByRecursion (λ pair. FitsSigned w32 pair.0 × IsDecimal pair.1) pairs
  pub are : words ≡ flat_map pair_words pairs

pub record SaysTable (words : Line) (table : ℤ × Label × List Label) : Type 0 where
  pub first : Word
  pub second : Word
  pub rest : Line
  pub have : words ≡ first ∷ second ∷ rest
  pub low : IsInt first table.0
  pub default : IsLabel second table.1
  pub labels : AreLabels rest table.2

pub record SaysLookup (words : Line) (lookup : Label × List (ℤ × Label)) : Type 0 where
  pub first : Word
  pub rest : Line
  pub have : words ≡ first ∷ rest
  pub default : IsLabel first lookup.0
  pub pairs : ArePairs rest lookup.1

-- an operand is of a variant, and the words say what it has
pub record Has {T : Type 0} (variant : T → Operand) (Says : Line → T → Type 0) (words : Line) (operand : Operand) : Type 0 where
  pub part : T
  pub is : operand ≡ variant part
  pub says : Says words part

pub record HasNothing (words : Line) (operand : Operand) : Type 0 where
  pub is : operand ≡ Nothing
  pub are : words ≡ []

-- the operand that names a constant of a kind
abbrev pub SaysNamed : ConstantKind → Line → Operand → Type 0
SaysNamed needed.Loadable = Has Load (Two SaysValue)
SaysNamed needed.Wide = Has Load (Two SaysValue)
SaysNamed needed.Class = Has Class (One IsName)
SaysNamed needed.Field = Has Member (Three (SaysMember kinds.Field))
SaysNamed needed.ClassMethod = Has Member (Three (SaysMember kinds.Method))
SaysNamed needed.AnyMethod = Has Member SaysAnyMethod
SaysNamed needed.InterfaceMethod = Has Member SaysInterface
SaysNamed needed.Dynamic = λ words operand. ⊥

abbrev pub SaysKind : Option ConstantKind → Line → Operand → Type 0
SaysKind None = λ words operand. ⊥
SaysKind (Some kind) = SaysNamed kind

-- the operand of a form
abbrev pub SaysForm : Option ConstantKind → Form → Line → Operand → Type 0
SaysForm kind forms.Plain = HasNothing
SaysForm kind forms.Byte = Has Number (One IsShort)
SaysForm kind forms.Short = Has Number (One IsShort)
SaysForm kind forms.PoolByte = SaysKind kind
SaysForm kind forms.Pool = SaysKind kind
SaysForm kind forms.Interface = SaysKind kind
SaysForm kind forms.Local = Has Local (One IsSmall)
SaysForm kind forms.WideLocal = Has Local (One IsSmall)
SaysForm kind forms.Increase = Has (λ pair. Increase pair.0 pair.1) (Two SaysIncrease)
SaysForm kind forms.WideIncrease = Has (λ pair. Increase pair.0 pair.1) (Two SaysIncrease)
SaysForm kind forms.Branch = Has Branch (One IsLabel)
SaysForm kind forms.LongBranch = Has Branch (One IsLabel)
SaysForm kind forms.ArrayCode = Has Array (One IsArrayType)
SaysForm kind forms.Dimensions = Has (λ pair. Dimensions pair.0 pair.1) (Two SaysDimensions)
SaysForm kind forms.Table = Has (λ table. Table table.0 table.1 table.2) SaysTable
SaysForm kind forms.Lookup = Has (λ lookup. Lookup lookup.0 lookup.1) SaysLookup
SaysForm kind forms.Dynamic = λ words operand. ⊥

-- the instruction that stands behind `wide` or not, by its name and its operand
pub record SaysNamedInstruction (wide : Bool) (words : Line) (instruction : Instruction) : Type 0 where
  pub name : Word
  pub rest : Line
  pub form : Form
  pub have : words ≡ name ∷ rest
  pub widened : instruction.wide ≡ wide
  pub fits : instruction.opcode < 2 ^ 8
  pub named : slice_get mnemonics instruction.opcode ≡ Some name
  pub formed : head_form wide instruction.opcode ≡ Some form
  pub says : SaysForm (kind_needed instruction.opcode) form rest instruction.operand

pub record SaysWide (words : Line) (instruction : Instruction) : Type 0 where
  pub rest : Line
  pub have : words ≡ codes "wide" ∷ rest
  pub says : SaysNamedInstruction true rest instruction

abbrev pub SaysInstruction : Line → Instruction → Type 0
SaysInstruction words instruction = SaysWide words instruction ⊎ SaysNamedInstruction false words instruction

-- a line of code
abbrev pub SaysCode : Line → CodeLine → Type 0
SaysCode words (Here label) = One IsHere words label
SaysCode words (Do instruction) = SaysInstruction words instruction
