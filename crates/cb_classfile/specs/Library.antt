-- What a row of the table of the library's classes says of a class record. It speaks of names alone, so how a pool is laid
-- out stays open.
use Rattle.std.specs.Prelude.{◌≡◌, ℕ, ◌+◌, Bool, false, List, [], ◌∷◌, filter, not, Option, Some, None, IsSomeAnd, bit_and, slice_get, ◌==◌}
use Rattle.std.specs.List.{AllZip}
use Rattle.cb_text.specs.declared.constant.Constant.{Constant}
use Rattle.cb_text.specs.declared.naming.MemberKind.{MemberKind}
use Rattle.cb_text.specs.declared.naming.MemberKind.TheVariants as kinds
use Rattle.cb_text.specs.Naming.{string_at, member_at}
use Rattle.cb_insn.specs.declared.insn.Insn.{Insn}
use Rattle.cb_insn.specs.declared.insn.Operand.{Operand}
use Rattle.cb_insn.specs.declared.insn.Operand.TheVariants as operands
use Rattle.cb_insn.specs.declared.opcode.TheConstants as opcodes
use Rattle.cb_insn.specs.Places.{places}
use Rattle.cb_library.specs.CoreClasses.{core_classes}
use Rattle.cb_library.specs.Rows as rows
use Rattle.cb_classfile.specs.declared.body.Body.{Body}
use Rattle.cb_classfile.specs.declared.class.ClassFile.{ClassFile}
use Rattle.cb_classfile.specs.declared.field.Field.{Field}
use Rattle.cb_classfile.specs.declared.frame_map.MapFrame.{MapFrame}
use Rattle.cb_classfile.specs.declared.map_type.MapType.{MapType}
use Rattle.cb_classfile.specs.declared.map_type.MapType.TheVariants as types
use Rattle.cb_classfile.specs.declared.method.Method.{Method}
use Rattle.cb_classfile.specs.Class.{IsWellFormed}
use Rattle.cb_classfile.specs.Flags.{acc_native}
use Rattle.cb_classfile.specs.Pool.{text_at, class_at}
use Rattle.cb_classfile.specs.Profile.{unsupported}

-- an instruction with this operand, and one with the index of a constant that is so
abbrev pub with_operand : ℕ → Operand → Insn
with_operand opcode operand = record { opcode = opcode; wide = false; operand = operand }

abbrev pub WithConstant : ℕ → (ℕ → Type 0) → Insn → Type 0
WithConstant opcode Is insn = (index : ℕ) × (insn ≡ with_operand opcode (operands.Pool index)) × Is index

-- the constant at the index names this member of a class
abbrev pub NamesMember : List Constant → MemberKind → List ℕ → List ℕ → List ℕ → ℕ → Type 0
NamesMember pool kind class name descriptor index =
    member_at pool index ≡ Some (record { kind = kind; class = class; name = name; descriptor = descriptor })

-- what a row's instruction says of one of code whose instructions have these places. A text is loaded by ldc_w, so that
-- no place rests on how many constants there are
abbrev pub SaysInsn : List Constant → List ℕ → rows.Instruction → Insn → Type 0
SaysInsn pool places (rows.Plain opcode) insn = insn ≡ with_operand opcode operands.Nothing
SaysInsn pool places (rows.Branch opcode target) insn =
    IsSomeAnd (slice_get places target) (λ place. insn ≡ with_operand opcode (operands.Branch place))
SaysInsn pool places (rows.LoadText text) insn = WithConstant opcodes.LDC_W (λ index. string_at pool index ≡ Some text) insn
SaysInsn pool places (rows.OfClass opcode class) insn = WithConstant opcode (λ index. class_at pool index ≡ Some class) insn
SaysInsn pool places (rows.OfField opcode class name descriptor) insn =
    WithConstant opcode (NamesMember pool kinds.Field class name descriptor) insn
SaysInsn pool places (rows.OfMethod opcode class name descriptor) insn =
    WithConstant opcode (NamesMember pool kinds.Method class name descriptor) insn

-- an object of this class
abbrev pub IsObjectOf : List Constant → List ℕ → MapType → Type 0
IsObjectOf pool class (types.Object index) = class_at pool index ≡ Some class
IsObjectOf pool class other = ⊥

-- the kind of a full frame
abbrev pub full_frame : ℕ
full_frame = 255

-- the place of a frame: the first one's delta, and that of another is counted on from behind the place of the one before
-- it (JVMS §4.7.4)
abbrev pub place_behind : Option ℕ → ℕ → ℕ
place_behind None delta = delta
place_behind (Some previous) delta = previous + 1 + delta

-- frames are full, with an empty stack
pub record SaysFrame (pool : List Constant) (places : List ℕ) (previous : Option ℕ) (row : rows.Frame) (frame : MapFrame) : Type 0 where
  pub full : frame.kind ≡ full_frame
  pub place : slice_get places row.at ≡ Some (place_behind previous frame.delta)
  pub locals : AllZip (IsObjectOf pool) row.locals frame.locals
  pub stack : frame.stack ≡ []

abbrev pub SaysFrames : List Constant → List ℕ → Option ℕ → List rows.Frame → List MapFrame → Type 0
SaysFrames pool places previous [] frames = frames ≡ []
SaysFrames pool places previous (row ∷ more) [] = ⊥
SaysFrames pool places previous (row ∷ more) (frame ∷ frames) =
    SaysFrame pool places previous row frame × SaysFrames pool places (Some (place_behind previous frame.delta)) more frames

pub record SaysBody (pool : List Constant) (row : rows.Body) (body : Body) : Type 0 where
  pub stack : body.max_stack ≡ row.max_stack
  pub locals : body.max_locals ≡ row.max_locals
  pub code : AllZip (λ insn placed. SaysInsn pool (places body.code) insn placed.1) row.code body.code
  pub handlers : body.handlers ≡ []
  pub frames : SaysFrames pool (places body.code) None row.frames body.frames

-- only what runs has a body. Which native a native method is, the row alone says
abbrev pub SaysKind : List Constant → rows.Kind → Option Body → Type 0
SaysKind pool (rows.Runs row) body = IsSomeAnd body (SaysBody pool row)
SaysKind pool other body = body ≡ None

pub record SaysMethod (pool : List Constant) (row : rows.Method) (method : Method) : Type 0 where
  pub flags : method.flags.0 ≡ row.flags
  pub name : text_at pool method.name ≡ Some row.name
  pub descriptor : text_at pool method.descriptor ≡ Some row.descriptor
  pub kind : SaysKind pool row.kind method.body

-- no field has a value of its own
pub record SaysField (pool : List Constant) (row : rows.Field) (field : Field) : Type 0 where
  pub flags : field.flags.0 ≡ row.flags
  pub name : text_at pool field.name ≡ Some row.name
  pub descriptor : text_at pool field.descriptor ≡ Some row.descriptor
  pub constant : field.constant ≡ None

abbrev pub SaysSuperclass : List Constant → Option (List ℕ) → ℕ → Type 0
SaysSuperclass pool None index = index ≡ 0
SaysSuperclass pool (Some name) index = class_at pool index ≡ Some name

-- the version of Java SE 8 (JVMS §4.1)
abbrev pub library_version : ℕ
library_version = 52

-- the record has what the row says and nothing else, in the row's order
pub record IsRecordOf (row : rows.CoreClass) (class : ClassFile) : Type 0 where
  pub version : class.major ≡ library_version
  pub flags : class.flags.0 ≡ row.flags
  pub name : class_at class.pool class.this_class ≡ Some row.name
  pub superclass : SaysSuperclass class.pool row.superclass class.super_class
  pub interfaces : AllZip (λ name index. class_at class.pool index ≡ Some name) row.interfaces class.interfaces
  pub fields : AllZip (SaysField class.pool) row.fields class.fields
  pub methods : AllZip (SaysMethod class.pool) row.methods class.methods

-- a class but for its native methods, which the machine leaves out of the classes that it reads
abbrev pub is_native : Method → Bool
is_native method = bit_and method.flags.0 acc_native == acc_native

abbrev pub without_natives : ClassFile → ClassFile
without_natives class =
    record { minor = class.minor; major = class.major; pool = class.pool; flags = class.flags; this_class = class.this_class; super_class = class.super_class; interfaces = class.interfaces; fields = class.fields; methods = filter (λ method. not (is_native method)) class.methods }

-- a class would be read from its own bytes, native methods apart: these spell it, and it has nothing else that is left out
abbrev pub IsReadable : ClassFile → Type 0
IsReadable class = IsWellFormed class × (unsupported (without_natives class) ≡ None)

-- the records of the library's classes, in the order of the table
abbrev pub AreLibrary : List ClassFile → Type 0
AreLibrary classes = AllZip IsRecordOf core_classes classes
