-- The rows of the code's table, as those of the definition.
use Rattle.std.specs.Prelude.{List, [], ◌∷◌, map, Option, Some, None, option_map}
use Rattle.std.specs.List.{flat_map}
use denote.Ref.{Bor}
use Rattle.cb_library.specs.Rows as rows
use Rattle.cb_core.specs.declared.row.CoreClass.{CoreClass}
use Rattle.cb_core.specs.declared.row.Field.{Field}
use Rattle.cb_core.specs.declared.row.Method.{Method}
use Rattle.cb_core.specs.declared.row.Body.{Body}
use Rattle.cb_core.specs.declared.row.Frame.{Frame}
use Rattle.cb_core.specs.declared.row.Kind.{Kind}
use Rattle.cb_core.specs.declared.row.Kind.TheVariants as kinds
use Rattle.cb_core.specs.declared.row.Instruction.{Instruction}
use Rattle.cb_core.specs.declared.row.Instruction.TheVariants as instructions

abbrev pub insn_row : Instruction → rows.Instruction
insn_row (instructions.Plain opcode) = rows.Plain opcode
insn_row (instructions.Branch opcode target) = rows.Branch opcode target
insn_row (instructions.LoadText text) = rows.LoadText text.now
insn_row (instructions.OfClass opcode class) = rows.OfClass opcode class.now
insn_row (instructions.OfField opcode class name descriptor) = rows.OfField opcode class.now name.now descriptor.now
insn_row (instructions.OfMethod opcode class name descriptor) = rows.OfMethod opcode class.now name.now descriptor.now

abbrev pub frame_row : Frame → rows.Frame
frame_row frame = record { at = frame.at; locals = map (λ name. name.now) frame.locals.now }

-- a body has one frame at most
abbrev pub frame_rows : Option Frame → List rows.Frame
frame_rows None = []
frame_rows (Some frame) = frame_row frame ∷ []

abbrev pub body_row : Body → rows.Body
body_row body =
    record { max_stack = body.max_stack; max_locals = body.max_locals; code = map insn_row body.code.now; frames = frame_rows body.frame }

abbrev pub kind_row : Kind → rows.Kind
kind_row kinds.Abstract = rows.Abstract
kind_row (kinds.Performed native) = rows.Performed native
kind_row (kinds.Runs body) = rows.Runs (body_row body)

abbrev pub method_row : Method → rows.Method
method_row method =
    record { flags = method.flags; name = method.name.now; descriptor = method.descriptor.now; kind = kind_row method.kind }

abbrev pub field_row : Field → rows.Field
field_row field = record { flags = field.flags; name = field.name.now; descriptor = field.descriptor.now }

abbrev pub class_row : CoreClass → rows.CoreClass
class_row class =
    record { flags = class.flags; name = class.name.now; superclass = option_map (λ name. name.now) class.superclass; interfaces = map (λ name. name.now) class.interfaces.now; fields = map field_row class.fields.now; methods = map method_row class.methods.now }

-- the rows of parts of the table, one after the other
abbrev pub part_rows : List (Bor (List CoreClass)) → List rows.CoreClass
part_rows parts = flat_map (λ part. map class_row part.now) parts
