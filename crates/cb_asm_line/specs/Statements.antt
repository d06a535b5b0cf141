-- The lines of a program, each by what it says.
use Rattle.std.specs.Prelude.{ℕ, ◌^◌, ◌<◌, FitsSigned, List, [], ◌∷◌, ◌++◌, map, Option, Some, None, IfSome, codes}
use Rattle.std.specs.Int.{w16, w32, w64}
use Rattle.std.specs.List.{AllByRecursion, flat_map, join_with_byte}
use Rattle.cb_text.specs.Text.{AreUnits}
use Rattle.cb_asm_line.specs.declared.operand.Value.TheVariants as values
use Rattle.cb_asm_line.specs.declared.statement.Statement.{Statement}
use Rattle.cb_asm_line.specs.declared.statement.Statement.TheVariants as statements
use Rattle.cb_asm_line.specs.Flags.{class_flags, method_flags, flags_word}
use Rattle.cb_asm_line.specs.Lines.{Line, space}
use Rattle.cb_asm_line.specs.Numbers.{IsDecimal, decimal}
use Rattle.cb_asm_line.specs.Operands.{IsInstruction}
use Rattle.cb_asm_line.specs.declared.operand.Value.{Value}
use Rattle.cb_asm_line.specs.declared.operand.MemberText.{MemberText}
use Rattle.cb_asm_line.specs.declared.operand.Operand.{Operand}
use Rattle.cb_asm_line.specs.declared.program.CodeLine.{CodeLine}
use Rattle.cb_asm_line.specs.declared.program.CatchLine.{CatchLine}
use Rattle.cb_asm_line.specs.declared.frame.FrameType.{FrameType}
use Rattle.cb_asm_line.specs.declared.frame.Frame.{Frame}
use Rattle.cb_asm_line.specs.declared.frame.FrameLine.{FrameLine}
use Rattle.cb_asm_line.specs.declared.program.CodeText.{CodeText}
use Rattle.cb_asm_line.specs.declared.program.MethodText.{MethodText}
use Rattle.cb_asm_line.specs.declared.program.Program.{Program}
use Rattle.cb_asm_line.specs.declared.operand.Operand.TheVariants.{Nothing, Number, Local, Increase, Load, Member, Class, Array, Dimensions, Branch, Table, Lookup}
use Rattle.cb_asm_line.specs.declared.program.CodeLine.TheVariants.{Here, Do}
use Rattle.cb_asm_line.specs.declared.frame.FrameType.TheVariants.{Object, New}
use Rattle.cb_asm_line.specs.declared.frame.FrameLine.TheVariants.{Full, Bad}
use Rattle.cb_asm_line.specs.Label.{Label}
use Rattle.cb_asm_line.specs.Quoting.{no_name, name_word}
use Rattle.cb_asm_line.specs.Spelling.{catch_line, code_line, end_line, field_line, frame_line, implements_line, name_or}

-- the words of a line by what it says
abbrev pub statement_words : Statement → Line
statement_words (statements.Class line) =
    codes "class" ∷ decimal line.major ∷ flags_word class_flags line.flags ∷ name_word line.name ∷ name_or no_name line.superclass ∷ []
statement_words (statements.Implements name) = implements_line name
statement_words (statements.Field field) = field_line field
statement_words (statements.Method line) =
    codes "method" ∷ flags_word method_flags line.flags ∷ name_word line.name ∷ name_word line.descriptor ∷ []
statement_words (statements.Limits limits) = codes "limits" ∷ decimal limits.stack ∷ decimal limits.locals ∷ []
statement_words (statements.Code line) = code_line line
statement_words (statements.Catch entry) = catch_line entry
statement_words (statements.Frame frame) = frame_line (Full frame)
statement_words statements.End = end_line

-- the same as it stands in a text, without its newline
abbrev pub statement_text : Statement → List ℕ
statement_text statement = join_with_byte space (statement_words statement)

-- what is said is of the types that a record has for it. A constant, a field or method, and an operand
abbrev pub IsValue : Value → Type 0
IsValue (values.Int number) = FitsSigned w32 number
IsValue (values.Long number) = FitsSigned w64 number
IsValue (values.Text text) = AreUnits text
IsValue (values.Class name) = AreUnits name

abbrev pub IsMember : MemberText → Type 0
IsMember member = AreUnits member.class × AreUnits member.name × AreUnits member.descriptor

abbrev pub IsOperand : Operand → Type 0
IsOperand Nothing = Unit {0}
IsOperand (Number number) = FitsSigned w16 number
IsOperand (Local local) = local < 2 ^ 16
IsOperand (Increase local by) = (local < 2 ^ 16) × FitsSigned w16 by
IsOperand (Load value) = IsValue value
IsOperand (Member member) = IsMember member
IsOperand (Class name) = AreUnits name
IsOperand (Array code) = Unit {0}
IsOperand (Dimensions name dimensions) = AreUnits name × (dimensions < 2 ^ 8)
IsOperand (Branch label) = IsDecimal label
IsOperand (Table low default labels) = FitsSigned w32 low × IsDecimal default × AllByRecursion IsDecimal labels
IsOperand (Lookup default pairs) = IsDecimal default × AllByRecursion (λ pair. FitsSigned w32 pair.0 × IsDecimal pair.1) pairs

-- a line of code: a label has a number, and an instruction the operand of its form
abbrev pub IsCodeLine : CodeLine → Type 0
IsCodeLine (Here label) = IsDecimal label
IsCodeLine (Do instruction) = (instruction.opcode < 2 ^ 8) × IsInstruction instruction × IsOperand instruction.operand

abbrev pub IsType : FrameType Label → Type 0
IsType (Object name) = AreUnits name
IsType (New label) = IsDecimal label
IsType other = Unit {0}

abbrev pub IsCatch : CatchLine → Type 0
IsCatch entry = IsDecimal entry.start × IsDecimal entry.end × IsDecimal entry.handler × IfSome entry.class AreUnits

abbrev pub IsFrame : Frame Label → Type 0
IsFrame frame = IsDecimal frame.place × AllByRecursion IsType frame.locals × AllByRecursion IsType frame.stack

-- a line of the format
abbrev pub IsStatement : Statement → Type 0
IsStatement (statements.Class line) =
    (line.major < 2 ^ 16) × (line.flags < 2 ^ 16) × AreUnits line.name × IfSome line.superclass AreUnits
IsStatement (statements.Implements name) = AreUnits name
IsStatement (statements.Field field) =
    (field.flags < 2 ^ 16) × AreUnits field.name × AreUnits field.descriptor × IfSome field.value IsValue
IsStatement (statements.Method line) = (line.flags < 2 ^ 16) × AreUnits line.name × AreUnits line.descriptor
IsStatement (statements.Limits limits) = (limits.stack < 2 ^ 16) × (limits.locals < 2 ^ 16)
IsStatement (statements.Code line) = IsCodeLine line
IsStatement (statements.Catch entry) = IsCatch entry
IsStatement (statements.Frame frame) = IsFrame frame
IsStatement statements.End = Unit {0}

-- the lines of a program
abbrev pub frame_statements : FrameLine → List Statement
frame_statements (Full frame) = statements.Frame frame ∷ []
frame_statements Bad = []

abbrev pub code_statements : Option CodeText → List Statement
code_statements None = []
code_statements (Some code) =
    statements.Limits (record { stack = code.stack; locals = code.locals }) ∷ map statements.Code code.lines ++ map statements.Catch code.catches ++ flat_map frame_statements code.frames

abbrev pub method_statements : MethodText → List Statement
method_statements method =
    statements.Method (record { flags = method.flags; name = method.name; descriptor = method.descriptor }) ∷ code_statements method.code ++ statements.End ∷ []

abbrev pub statements_of : Program → List Statement
statements_of program =
    statements.Class (record { major = program.major; flags = program.flags; name = program.name; superclass = program.superclass })
    ∷ map statements.Implements program.interfaces ++ map statements.Field program.fields ++ flat_map method_statements program.methods

-- no frame of a program is bad
abbrev pub IsWhole : FrameLine → Type 0
IsWhole (Full frame) = Unit {0}
IsWhole Bad = ⊥

abbrev pub AreWhole : CodeText → Type 0
AreWhole code = AllByRecursion IsWhole code.frames

-- each line of a program is one of the format
pub record HasLines (program : Program) : Type 0 where
  pub each : AllByRecursion IsStatement (statements_of program)
  pub whole : AllByRecursion (λ method. IfSome method.code AreWhole) program.methods
