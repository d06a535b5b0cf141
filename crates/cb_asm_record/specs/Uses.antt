-- The constants that a program uses, in the order of its lines. The name of the attribute Code is used where `limits`
-- stands, that of ConstantValue before the value of a field, and that of StackMapTable before the first frame of a method.
use Rattle.std.specs.Prelude.{ℕ, List, [], ◌∷◌, ◌++◌, map, Option, Some, None, codes}
use Rattle.std.specs.List.{flat_map}
use Rattle.cb_asm_record.specs.Entries.{Entry, Text, member_entry, value_entry}
use Rattle.cb_asm_line.specs.declared.operand.Value.{Value}
use Rattle.cb_asm_line.specs.declared.operand.Operand.{Operand}
use Rattle.cb_asm_line.specs.declared.program.CodeLine.{CodeLine}
use Rattle.cb_asm_line.specs.declared.frame.FrameType.{FrameType}
use Rattle.cb_asm_line.specs.declared.frame.FrameLine.{FrameLine}
use Rattle.cb_asm_line.specs.declared.program.CodeText.{CodeText}
use Rattle.cb_asm_line.specs.declared.program.FieldText.{FieldText}
use Rattle.cb_asm_line.specs.declared.program.MethodText.{MethodText}
use Rattle.cb_asm_line.specs.declared.program.Program.{Program}
use Rattle.cb_asm_line.specs.declared.operand.Operand.TheVariants.{Load, Member, Class, Dimensions}
use Rattle.cb_asm_line.specs.declared.program.CodeLine.TheVariants.{Here, Do}
use Rattle.cb_asm_line.specs.declared.frame.FrameType.TheVariants.{Object}
use Rattle.cb_asm_line.specs.declared.frame.FrameLine.TheVariants.{Full, Bad}
use Rattle.cb_asm_line.specs.Label.{Label}

abbrev pub operand_uses : Operand → List Entry
operand_uses (Load value) = value_entry value ∷ []
operand_uses (Member member) = member_entry member ∷ []
operand_uses (Class name) = Entry.Class name ∷ []
operand_uses (Dimensions name dimensions) = Entry.Class name ∷ []
operand_uses other = []

abbrev pub line_uses : CodeLine → List Entry
line_uses (Here label) = []
line_uses (Do instruction) = operand_uses instruction.operand

abbrev pub class_use : Option (List ℕ) → List Entry
class_use None = []
class_use (Some name) = Entry.Class name ∷ []

abbrev pub type_uses : FrameType Label → List Entry
type_uses (Object name) = Entry.Class name ∷ []
type_uses other = []

abbrev pub frame_uses : FrameLine → List Entry
frame_uses (Full frame) = flat_map type_uses (frame.locals ++ frame.stack)
frame_uses Bad = []

abbrev pub frames_uses : List FrameLine → List Entry
frames_uses [] = []
frames_uses (frame ∷ frames) = Text (codes "StackMapTable") ∷ flat_map frame_uses (frame ∷ frames)

abbrev pub code_uses : Option CodeText → List Entry
code_uses None = []
code_uses (Some code) =
    Text (codes "Code") ∷ flat_map line_uses code.lines ++ flat_map (λ entry. class_use entry.class) code.catches ++ frames_uses code.frames

abbrev pub value_uses : Option Value → List Entry
value_uses None = []
value_uses (Some value) = Text (codes "ConstantValue") ∷ value_entry value ∷ []

abbrev pub field_uses : FieldText → List Entry
field_uses field = Text field.name ∷ Text field.descriptor ∷ value_uses field.value

abbrev pub method_uses : MethodText → List Entry
method_uses method = Text method.name ∷ Text method.descriptor ∷ code_uses method.code

abbrev pub program_uses : Program → List Entry
program_uses program =
    Entry.Class program.name ∷ class_use program.superclass ++ map Entry.Class program.interfaces ++ flat_map field_uses program.fields ++ flat_map method_uses program.methods
