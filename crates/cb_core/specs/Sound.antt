-- What the records of rows rest on: the names and descriptors of a row follow their grammars, its flags fit what its
-- methods are, and its numbers are small. All rows of the table are so.
use Rattle.std.specs.Prelude.{◌≡◌, ◌≢◌, ◌⊎◌, ℕ, ◌+◌, ◌*◌, ◌^◌, ◌<◌, ◌≤◌, List, [], length, map, Some, None, IfSome, codes}
use Rattle.std.specs.List.{AllByRecursion, AllPairs, sum}
use Rattle.cb_insn.specs.declared.form.Form.TheVariants as forms
use Rattle.cb_insn.specs.Forms.{form_of}
use Rattle.cb_names.specs.Names.{IsClassName, IsMethodName, IsUnqualifiedName}
use Rattle.cb_names.specs.Descriptors.{IsFieldDescriptor, IsMethodDescriptor}
use Rattle.cb_library.specs.Rows.{CoreClass, Method, Field, Kind, Abstract, Performed, Runs, Body, Frame, Instruction, Plain, Branch, LoadText, OfClass, OfField, OfMethod}
use Rattle.cb_classfile.specs.declared.needed.ConstantKind.TheVariants as kinds
use Rattle.cb_classfile.specs.Class.{object}
use Rattle.cb_classfile.specs.Flags.{acc_static, acc_native, acc_interface, acc_abstract, acc_synchronized, HasFlag}
use Rattle.cb_classfile.specs.Needed.{kind_needed}
use Rattle.cb_classfile.specs.Pool.{GivesNothing}
use Rattle.cb_classfile.specs.Profile.{class_item, descriptor_item, opcode_item}

-- a text of ASCII characters that a constant holds
pub record IsShort (text : List ℕ) : Type 0 where
  pub ascii : AllByRecursion (λ unit. (0 < unit) × (unit < 128)) text
  pub short : length text < 2 ^ 16

-- names of classes, of fields and of methods, and descriptors
pub record IsSoundClassName (name : List ℕ) : Type 0 where
  pub is : IsClassName name
  pub supported : class_item name ≡ None
  pub short : IsShort name

pub record IsSoundFieldName (name : List ℕ) : Type 0 where
  pub is : IsUnqualifiedName name
  pub short : IsShort name

pub record IsSoundMethodName (name : List ℕ) : Type 0 where
  pub is : IsMethodName name
  pub no_initialiser : name ≢ codes "<clinit>"
  pub short : IsShort name

pub record IsSoundFieldDescriptor (text : List ℕ) : Type 0 where
  pub is : IsFieldDescriptor text
  pub supported : descriptor_item text ≡ None
  pub short : IsShort text

-- the words of the parameters leave room for `this` (JVMS §4.3.3)
pub record IsSoundMethodDescriptor (text : List ℕ) : Type 0 where
  pub words : ℕ
  pub is : IsMethodDescriptor text words
  pub few : words + 1 ≤ 255
  pub supported : descriptor_item text ≡ None
  pub short : IsShort text

-- an instruction of code of so many instructions
abbrev pub IsSoundInsn : ℕ → Instruction → Type 0
IsSoundInsn count (Plain opcode) = (form_of opcode ≡ Some forms.Plain) × (opcode_item opcode ≡ None)
IsSoundInsn count (Branch opcode target) =
    (form_of opcode ≡ Some forms.Branch) × (opcode_item opcode ≡ None) × (target < count)
IsSoundInsn count (LoadText text) = IsShort text
IsSoundInsn count (OfClass opcode class) =
    (form_of opcode ≡ Some forms.Pool) × (opcode_item opcode ≡ None) × (kind_needed opcode ≡ Some kinds.Class) × IsSoundClassName class
IsSoundInsn count (OfField opcode class name descriptor) =
    (form_of opcode ≡ Some forms.Pool) × (opcode_item opcode ≡ None) × (kind_needed opcode ≡ Some kinds.Field)
    × IsSoundClassName class × IsSoundFieldName name × IsSoundFieldDescriptor descriptor
IsSoundInsn count (OfMethod opcode class name descriptor) =
    (form_of opcode ≡ Some forms.Pool) × (opcode_item opcode ≡ None)
    × ((kind_needed opcode ≡ Some kinds.ClassMethod) ⊎ (kind_needed opcode ≡ Some kinds.AnyMethod))
    × IsSoundClassName class × IsSoundMethodName name × IsSoundMethodDescriptor descriptor
    × (name ≡ codes "<init>" → GivesNothing descriptor)

pub record IsSoundFrame (count : ℕ) (frame : Frame) : Type 0 where
  pub at : frame.at < count
  pub few : length frame.locals < 2 ^ 16
  pub locals : AllByRecursion IsSoundClassName frame.locals

-- it has at least one instruction and one frame at most
pub record IsSoundBody (body : Body) : Type 0 where
  pub max_stack : body.max_stack < 2 ^ 16
  pub max_locals : body.max_locals < 2 ^ 16
  pub some : 0 < length body.code
  pub few : length body.code ≤ 1000
  pub code : AllByRecursion (IsSoundInsn (length body.code)) body.code
  pub one_frame : length body.frames ≤ 1
  pub frames : AllByRecursion (IsSoundFrame (length body.code)) body.frames

-- only an abstract method is abstract, and only a native one native. An abstract one is neither static nor a constructor
abbrev pub IsSoundKind : ℕ → List ℕ → Kind → Type 0
IsSoundKind flags name Abstract =
    HasFlag flags acc_abstract × (¬ HasFlag flags acc_native) × (¬ HasFlag flags acc_static) × (name ≢ codes "<init>")
IsSoundKind flags name (Performed native) = HasFlag flags acc_native × (¬ HasFlag flags acc_abstract)
IsSoundKind flags name (Runs body) = (¬ HasFlag flags acc_abstract) × (¬ HasFlag flags acc_native) × IsSoundBody body

pub record IsSoundMethod (method : Method) : Type 0 where
  pub flags : method.flags < 2 ^ 16
  pub unsynchronized : ¬ HasFlag method.flags acc_synchronized
  pub name : IsSoundMethodName method.name
  pub no_finalizer : method.name ≢ codes "finalize"
  pub descriptor : IsSoundMethodDescriptor method.descriptor
  pub kind : IsSoundKind method.flags method.name method.kind

pub record IsSoundField (field : Field) : Type 0 where
  pub flags : field.flags < 2 ^ 16
  pub name : IsSoundFieldName field.name
  pub descriptor : IsSoundFieldDescriptor field.descriptor

-- how many constants the record of a row has at most
abbrev pub insn_room : Instruction → ℕ
insn_room (Plain opcode) = 0
insn_room (Branch opcode target) = 0
insn_room (LoadText text) = 2
insn_room (OfClass opcode class) = 2
insn_room (OfField opcode class name descriptor) = 6
insn_room (OfMethod opcode class name descriptor) = 6

abbrev pub code_room : List Instruction → ℕ
code_room code = sum (map insn_room code)

abbrev pub frames_room : List Frame → ℕ
frames_room frames = sum (map (λ frame. 2 * length frame.locals) frames)

abbrev pub kind_room : Kind → ℕ
kind_room (Runs body) = code_room body.code + frames_room body.frames
kind_room other = 0

abbrev pub method_room : Method → ℕ
method_room method = 2 + kind_room method.kind

abbrev pub methods_room : List Method → ℕ
methods_room methods = sum (map method_room methods)

-- the names of two attributes, the class, its superclass and interfaces, each with its name, and the members
abbrev pub class_room : CoreClass → ℕ
class_room row = 6 + 2 * length row.interfaces + 2 * length row.fields + methods_room row.methods

-- an interface is abstract, its superclass is Object and it has no field
pub record IsSoundInterface (row : CoreClass) : Type 0 where
  pub abstract_class : HasFlag row.flags acc_abstract
  pub superclass : row.superclass ≡ Some object
  pub fields : row.fields ≡ []

-- Object alone has no superclass, and a field or method of one name and descriptor stands once
pub record IsSound (row : CoreClass) : Type 0 where
  pub flags : row.flags < 2 ^ 16
  pub name : IsSoundClassName row.name
  pub superclass : IfSome row.superclass IsSoundClassName
  pub root : (row.superclass ≡ None) → row.name ≡ object
  pub no_root : row.name ≡ object → row.superclass ≡ None
  pub interfaces : AllByRecursion IsSoundClassName row.interfaces
  pub as_interface : HasFlag row.flags acc_interface → IsSoundInterface row
  pub fields : AllByRecursion IsSoundField row.fields
  pub methods : AllByRecursion IsSoundMethod row.methods
  pub fields_differ : AllPairs {X = List ℕ × List ℕ} (λ one other. one ≢ other) (map (λ field. (field.name, field.descriptor)) row.fields)
  pub methods_differ : AllPairs {X = List ℕ × List ℕ} (λ one other. one ≢ other) (map (λ method. (method.name, method.descriptor)) row.methods)
  pub room : class_room row < 65000
