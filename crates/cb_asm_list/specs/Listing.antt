-- The listing of a class: the text of the program that is read off its record, with what each index names. It is stated
-- of records that are well formed and have nothing unsupported, and what it says of others means nothing.
use Rattle.std.specs.Prelude.{ℕ, suc, Bool, List, [], ◌∷◌, ◌++◌, length, map, Option, Some, None, option_map, option_and_then, filter, ◌==◌, if◌then◌else◌}
use Rattle.std.specs.Int.{w32, w64, cast_signed}
use Rattle.std.specs.List.{flat_map, list_all, list_any}
use Rattle.std.specs.Option.{unwrap_or}
use Rattle.cb_text.specs.declared.constant.Constant.{Constant}
use Rattle.cb_text.specs.declared.constant.Constant.TheVariants as constants
use Rattle.cb_text.specs.Naming.{MemberNames, member_at, string_at}
use Rattle.cb_text.specs.Pool.{constant_at}
use Rattle.cb_insn.specs.declared.insn.Insn.{Insn}
use Rattle.cb_insn.specs.declared.insn.Operand.{Operand as InsnOperand}
use Rattle.cb_insn.specs.declared.insn.Operand.TheVariants as operands
use Rattle.cb_insn.specs.Grammar.{targets_of}
use Rattle.cb_insn.specs.Places.{places}
use Rattle.cb_insn.specs.Writing.{code_bytes}
use Rattle.cb_classfile.specs.declared.body.Body.{Body}
use Rattle.cb_classfile.specs.declared.class.ClassFile.{ClassFile}
use Rattle.cb_classfile.specs.declared.field.Field.{Field}
use Rattle.cb_classfile.specs.declared.handler.Handler.{Handler}
use Rattle.cb_classfile.specs.declared.method.Method.{Method}
use Rattle.cb_classfile.specs.declared.needed.ConstantKind.{ConstantKind}
use Rattle.cb_classfile.specs.declared.needed.ConstantKind.TheVariants as needed
use Rattle.cb_classfile.specs.Needed.{kind_needed}
use Rattle.cb_classfile.specs.Pool.{class_at}
use Rattle.cb_asm_line.specs.declared.operand.Value.TheVariants as values
use Rattle.cb_asm_list.specs.Expansion.{class_named, text_named, expanded}
use Rattle.cb_asm_line.specs.Numbers.{decimal}
use Rattle.cb_asm_line.specs.declared.operand.Value.{Value}
use Rattle.cb_asm_line.specs.declared.operand.MemberText.{MemberText}
use Rattle.cb_asm_line.specs.declared.operand.Operand.{Operand}
use Rattle.cb_asm_line.specs.declared.program.CodeLine.{CodeLine}
use Rattle.cb_asm_line.specs.declared.program.CatchLine.{CatchLine}
use Rattle.cb_asm_line.specs.declared.frame.FrameType.{FrameType}
use Rattle.cb_asm_line.specs.declared.frame.Frame.{Frame}
use Rattle.cb_asm_line.specs.declared.frame.FrameLine.{FrameLine}
use Rattle.cb_asm_line.specs.declared.program.CodeText.{CodeText}
use Rattle.cb_asm_line.specs.declared.program.FieldText.{FieldText}
use Rattle.cb_asm_line.specs.declared.program.MethodText.{MethodText}
use Rattle.cb_asm_line.specs.declared.program.Program.{Program}
use Rattle.cb_asm_line.specs.declared.program.CodeLine.TheVariants.{Here, Do}
use Rattle.cb_asm_line.specs.declared.frame.FrameType.TheVariants.{Top, Int, Long, Null, This, Object, New}
use Rattle.cb_asm_line.specs.declared.frame.FrameLine.TheVariants.{Full, Bad}
use Rattle.cb_asm_line.specs.Label.{Label}
use Rattle.cb_asm_line.specs.Spelling.{program_text}

-- a field or method by its names
abbrev pub member_text : MemberNames → MemberText
member_text member =
    record { kind = member.kind; class = member.class; name = member.name; descriptor = member.descriptor }

-- what is loaded by a constant at an index, if it has words
abbrev pub value_of : List Constant → ℕ → Constant → Option Value
value_of pool index (constants.Integer number) = Some (values.Int (cast_signed w32 number))
value_of pool index (constants.Long number) = Some (values.Long (cast_signed w64 number))
value_of pool index (constants.Class name) = option_map values.Class (class_at pool index)
value_of pool index (constants.String text) = option_map values.Text (string_at pool index)
value_of pool index other = None

abbrev pub value_at : List Constant → ℕ → Option Value
value_at pool index = option_and_then (value_of pool index) (constant_at pool index)

-- the operand that names the constant at an index, of the kind that an opcode needs
abbrev pub kind_named : List Constant → ℕ → ConstantKind → Option Operand
kind_named pool index needed.Loadable = option_map Operand.Load (value_at pool index)
kind_named pool index needed.Wide = option_map Operand.Load (value_at pool index)
kind_named pool index needed.Class = option_map Operand.Class (class_at pool index)
kind_named pool index other = option_map (λ member. Operand.Member (member_text member)) (member_at pool index)

abbrev pub named : List Constant → ℕ → ℕ → Operand
named pool opcode index = unwrap_or (option_and_then (kind_named pool index) (kind_needed opcode)) Operand.Nothing

-- an operand with the names of its constants and the labels of its places
abbrev pub operand_in : ClassFile → (ℕ → Label) → ℕ → InsnOperand → Operand
operand_in class label opcode operands.Nothing = Operand.Nothing
operand_in class label opcode (operands.Number number) = Operand.Number number
operand_in class label opcode (operands.Pool index) = named class.pool opcode index
operand_in class label opcode (operands.Local local) = Operand.Local local
operand_in class label opcode (operands.Increase local by) = Operand.Increase local by
operand_in class label opcode (operands.Branch target) = Operand.Branch (label target)
operand_in class label opcode (operands.ArrayCode code) = Operand.Array code
operand_in class label opcode (operands.Dimensions index dimensions) = Operand.Dimensions (class_named class index) dimensions
operand_in class label opcode (operands.Interface index count) = named class.pool opcode index
operand_in class label opcode (operands.Table default low targets) = Operand.Table low (label default) (map label targets)
operand_in class label opcode (operands.Lookup default pairs) =
    Operand.Lookup (label default) (map (λ pair. (pair.key, label pair.target)) pairs)

abbrev pub among : List ℕ → ℕ → Bool
among places place = list_any (λ other. other == place) places

-- the places of types in a frame, and of a frame and its types
abbrev pub type_places : FrameType ℕ → List ℕ
type_places (New place) = place ∷ []
type_places other = []

abbrev pub frame_places : Frame ℕ → List ℕ
frame_places frame = frame.place ∷ flat_map type_places (frame.locals ++ frame.stack)

-- the places that may have labels: those of the instructions, and the end of the code
abbrev pub places_of : Body → List ℕ
places_of body = places body.code ++ length (code_bytes body.code) ∷ []

-- the frames in full, of which one is missing where it can't be expanded or names a place that may have no label
abbrev pub placed_frame : Body → Frame ℕ → Option (Frame ℕ)
placed_frame body frame = if list_all (among (places_of body)) (frame_places frame) then Some frame else None

abbrev pub listed_frames : ClassFile → Method → Body → List (Option (Frame ℕ))
listed_frames class method body = map (option_and_then (placed_frame body)) (expanded class method body.frames)

-- the places that the lines of a method name: those of branches, of the exception table, and of frames
abbrev pub handler_places : Handler → List ℕ
handler_places handler = handler.start ∷ handler.end ∷ handler.handler ∷ []

abbrev pub optional_places : Option (Frame ℕ) → List ℕ
optional_places None = []
optional_places (Some frame) = frame_places frame

abbrev pub named_places : Body → List (Option (Frame ℕ)) → List ℕ
named_places body frames =
    flat_map (λ placed. targets_of placed.1.operand) body.code ++ flat_map handler_places body.handlers ++ flat_map optional_places frames

-- these have labels, which are numbered from 0 by place
abbrev pub labelled_places : Body → List (Option (Frame ℕ)) → List ℕ
labelled_places body frames = filter (among (named_places body frames)) (places_of body)

abbrev pub number_of : List ℕ → ℕ → ℕ
number_of [] place = 0
number_of (first ∷ places) place = if first == place then 0 else suc (number_of places place)

abbrev pub label_of : List ℕ → ℕ → Label
label_of labelled place = decimal (number_of labelled place)

-- the label of a place stands before its instruction, and that of the end behind the last
abbrev pub label_line : List ℕ → ℕ → List CodeLine
label_line labelled place = if among labelled place then Here (label_of labelled place) ∷ [] else []

abbrev pub code_line_of : ClassFile → List ℕ → ℕ × Insn → List CodeLine
code_line_of class labelled placed =
    label_line labelled placed.0 ++ Do (record { opcode = placed.1.opcode; wide = placed.1.wide; operand = operand_in class (label_of labelled) placed.1.opcode placed.1.operand }) ∷ []

abbrev pub catch_of : ClassFile → (ℕ → Label) → Handler → CatchLine
catch_of class label handler =
    record { start = label handler.start; end = label handler.end; handler = label handler.handler; class = class_at class.pool handler.catch_type }

abbrev pub type_of : (ℕ → Label) → FrameType ℕ → FrameType Label
type_of label Top = Top
type_of label Int = Int
type_of label Long = Long
type_of label Null = Null
type_of label This = This
type_of label (Object name) = Object name
type_of label (New place) = New (label place)

abbrev pub frame_line_of : (ℕ → Label) → Option (Frame ℕ) → FrameLine
frame_line_of label None = Bad
frame_line_of label (Some frame) =
    Full (record { place = label frame.place; locals = map (type_of label) frame.locals; stack = map (type_of label) frame.stack })

-- the text of a body with these frames, whose places have these labels
abbrev pub code_with : ClassFile → Body → List (Option (Frame ℕ)) → List ℕ → CodeText
code_with class body frames labelled =
    record { stack = body.max_stack; locals = body.max_locals; lines = flat_map (code_line_of class labelled) body.code ++ label_line labelled (length (code_bytes body.code)); catches = map (catch_of class (label_of labelled)) body.handlers; frames = map (frame_line_of (label_of labelled)) frames }

abbrev pub code_of : ClassFile → Method → Body → CodeText
code_of class method body =
    let frames = listed_frames class method body in code_with class body frames (labelled_places body frames)

abbrev pub field_text : ClassFile → Field → FieldText
field_text class field =
    record { flags = field.flags.0; name = text_named class field.name; descriptor = text_named class field.descriptor; value = option_and_then (value_at class.pool) field.constant }

abbrev pub method_text : ClassFile → Method → MethodText
method_text class method =
    record { flags = method.flags.0; name = text_named class method.name; descriptor = text_named class method.descriptor; code = option_map (code_of class method) method.body }

abbrev pub program_of : ClassFile → Program
program_of class =
    record { major = class.major; flags = class.flags.0; name = class_named class class.this_class; superclass = class_at class.pool class.super_class; interfaces = map (class_named class) class.interfaces; fields = map (field_text class) class.fields; methods = map (method_text class) class.methods }

abbrev pub listing : ClassFile → List ℕ
listing class = program_text (program_of class)
