-- The class record of a program (JVMS chapter 4). The minor version is 0, and each frame is a full one.
use Rattle.std.specs.Prelude.{ℕ, ◌+◌, ◌-◌, List, [], ◌∷◌, map, Option, Some, None, option_map}
use Rattle.cb_classfile.specs.declared.body.Body.{Body}
use Rattle.cb_classfile.specs.declared.class.ClassFile.{ClassFile}
use Rattle.cb_classfile.specs.declared.field.Field.{Field}
use Rattle.cb_classfile.specs.declared.frame_map.MapFrame.{MapFrame}
use Rattle.cb_classfile.specs.declared.handler.Handler.{Handler}
use Rattle.cb_classfile.specs.declared.map_type.MapType.{MapType}
use Rattle.cb_classfile.specs.declared.map_type.MapType.TheVariants as types
use Rattle.cb_classfile.specs.declared.method.Method.{Method}
use Rattle.cb_asm_record.specs.Constants.{entries_of, index_of, pool_of}
use Rattle.cb_asm_record.specs.Entries.{Entry, Text, value_entry}
use Rattle.cb_asm_record.specs.Labels.{code_from, place_at}
use Rattle.cb_asm_line.specs.declared.program.CatchLine.{CatchLine}
use Rattle.cb_asm_line.specs.declared.frame.FrameType.{FrameType}
use Rattle.cb_asm_line.specs.declared.frame.Frame.{Frame}
use Rattle.cb_asm_line.specs.declared.frame.FrameLine.{FrameLine}
use Rattle.cb_asm_line.specs.declared.program.CodeText.{CodeText}
use Rattle.cb_asm_line.specs.declared.program.FieldText.{FieldText}
use Rattle.cb_asm_line.specs.declared.program.MethodText.{MethodText}
use Rattle.cb_asm_line.specs.declared.program.Program.{Program}
use Rattle.cb_asm_line.specs.declared.frame.FrameType.TheVariants.{Top, Int, Long, Null, This, Object, New}
use Rattle.cb_asm_line.specs.declared.frame.FrameLine.TheVariants.{Full, Bad}
use Rattle.cb_asm_line.specs.Label.{Label}
use Rattle.cb_asm_record.specs.Uses.{program_uses}

-- the index of a class, or 0 for none
abbrev pub class_index : List Entry → Option (List ℕ) → ℕ
class_index entries None = 0
class_index entries (Some name) = index_of entries (Entry.Class name)

abbrev pub handler_of : List Entry → (Label → ℕ) → CatchLine → Handler
handler_of entries place entry =
    record { start = place entry.start; end = place entry.end; handler = place entry.handler; catch_type = class_index entries entry.class }

abbrev pub map_type_of : List Entry → (Label → ℕ) → FrameType Label → MapType
map_type_of entries place Top = types.Top
map_type_of entries place Int = types.Integer
map_type_of entries place Long = types.Long
map_type_of entries place Null = types.Null
map_type_of entries place This = types.UninitializedThis
map_type_of entries place (Object name) = types.Object (index_of entries (Entry.Class name))
map_type_of entries place (New label) = types.Uninitialized (place label)

-- the first frame's delta is its place, and that of another how far it is behind the place after the one before it
-- (JVMS §4.7.4)
abbrev pub delta_behind : Option ℕ → ℕ → ℕ
delta_behind None place = place
delta_behind (Some previous) place = place - (previous + 1)

abbrev pub full_kind : ℕ
full_kind = 255

abbrev pub frame_behind : List Entry → (Label → ℕ) → Option ℕ → Frame Label → MapFrame
frame_behind entries place previous frame =
    record { kind = full_kind; delta = delta_behind previous (place frame.place); locals = map (map_type_of entries place) frame.locals; stack = map (map_type_of entries place) frame.stack }

-- the frames behind one at a place, or behind none
abbrev pub frames_behind : List Entry → (Label → ℕ) → Option ℕ → List FrameLine → List MapFrame
frames_behind entries place previous [] = []
frames_behind entries place previous (Bad ∷ frames) = frames_behind entries place previous frames
frames_behind entries place previous (Full frame ∷ frames) =
    frame_behind entries place previous frame ∷ frames_behind entries place (Some (place frame.place)) frames

abbrev pub body_of : List Entry → CodeText → Body
body_of entries code =
    let place = place_at code.lines in
    record { max_stack = code.stack; max_locals = code.locals; code = code_from entries place 0 code.lines; handlers = map (handler_of entries place) code.catches; frames = frames_behind entries place None code.frames }

abbrev pub field_of : List Entry → FieldText → Field
field_of entries field =
    record { flags = record { 0 = field.flags }; name = index_of entries (Text field.name); descriptor = index_of entries (Text field.descriptor); constant = option_map (λ value. index_of entries (value_entry value)) field.value }

abbrev pub method_of : List Entry → MethodText → Method
method_of entries method =
    record { flags = record { 0 = method.flags }; name = index_of entries (Text method.name); descriptor = index_of entries (Text method.descriptor); body = option_map (body_of entries) method.code }

-- the record of a program whose constants are these
abbrev pub class_in : List Entry → Program → ClassFile
class_in entries program =
    record { minor = 0; major = program.major; pool = pool_of entries; flags = record { 0 = program.flags }; this_class = index_of entries (Entry.Class program.name); super_class = class_index entries program.superclass; interfaces = map (λ name. index_of entries (Entry.Class name)) program.interfaces; fields = map (field_of entries) program.fields; methods = map (method_of entries) program.methods }

abbrev pub class_of : Program → ClassFile
class_of program = class_in (entries_of (program_uses program)) program
