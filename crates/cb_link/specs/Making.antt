-- The objects that instructions make, and the kinds and texts of a program (JVMS §6.5; §4.4.3).
use Rattle.std.specs.Prelude.{ℕ, Bool, List, [], ◌∷◌, ◌++◌, map, take, codes, Option, Some, None, option_and_then, ◌==◌, ◌||◌, if◌then◌else◌}
use Rattle.std.specs.List.{enumerate_from, flat_map}
use Rattle.cb_text.specs.declared.constant.Constant.{Constant}
use Rattle.cb_text.specs.Naming.{MemberNames, class_at, member_at, string_at, text_at}
use Rattle.cb_names.specs.Signs.{bracket, letter_boolean, letter_byte, letter_char, letter_double, letter_float, letter_int, letter_long, letter_short}
use Rattle.cb_insn.specs.declared.insn.Insn.{Insn}
use Rattle.cb_insn.specs.declared.insn.Operand.{Operand}
use Rattle.cb_insn.specs.declared.insn.Operand.TheVariants as operands
use Rattle.cb_insn.specs.declared.opcode.TheConstants as opcodes
use Rattle.cb_classfile.specs.declared.body.Body.{Body}
use Rattle.cb_classfile.specs.declared.class.ClassFile.{ClassFile}
use Rattle.cb_classfile.specs.declared.array_code.TheConstants as array_codes
use Rattle.cb_classfile.specs.declared.field.Field.{Field}
use Rattle.cb_classfile.specs.declared.frame_map.MapFrame.{MapFrame}
use Rattle.cb_classfile.specs.declared.handler.Handler.{Handler}
use Rattle.cb_classfile.specs.declared.map_type.MapType.{MapType}
use Rattle.cb_classfile.specs.declared.map_type.MapType.TheVariants as types
use Rattle.cb_classfile.specs.declared.method.Method.{Method}
use Rattle.cb_classfile.specs.Needed.{index_in}
use Rattle.cb_hierarchy.specs.Classes.{listed}
use Rattle.cb_kinds.specs.Descriptors.{types_of}
use Rattle.cb_kinds.specs.Kinds.{array_of, kinds_of_name, kinds_of_type}
use Rattle.cb_kinds.specs.Texts.{firsts}
use Rattle.cb_classfile.specs.Flags.{acc_static}
use Rattle.cb_link.specs.Numbers.{has_flag, methods_of, name_of, or_none}

-- the letter of the base type of a code (JVMS table 6.5.newarray-A)
abbrev pub letter_of_code : ℕ → ℕ
letter_of_code code =
    if code == array_codes.BOOLEAN then letter_boolean
    else if code == array_codes.CHAR then letter_char
    else if code == array_codes.FLOAT then letter_float
    else if code == array_codes.DOUBLE then letter_double
    else if code == array_codes.BYTE then letter_byte
    else if code == array_codes.SHORT then letter_short
    else if code == array_codes.LONG then letter_long
    else letter_int

abbrev pub base_array : ℕ → List ℕ
base_array code = bracket ∷ letter_of_code code ∷ []

-- the name of the class or array that an operand's constant names
abbrev pub named_in : List Constant → Operand → Option (List ℕ)
named_in pool operand = option_and_then (class_at pool) (index_in operand)

-- the kinds of the objects that an instruction makes, the outermost array first
abbrev arrays_of : List Constant → Operand → List (List ℕ)
arrays_of pool (operands.ArrayCode code) = base_array code ∷ []
arrays_of pool (operands.Dimensions index dimensions) = take dimensions (kinds_of_type (or_none (class_at pool index)))
arrays_of pool other = []

abbrev pub made_by : List Constant → Insn → List (List ℕ)
made_by pool insn =
    if insn.opcode == opcodes.NEW then listed (named_in pool insn.operand)
    else if insn.opcode == opcodes.ANEWARRAY then map array_of (listed (named_in pool insn.operand))
    else arrays_of pool insn.operand

-- an object that an instruction of a method makes, by its place and, in an array of arrays, its dimension
pub record Making : Type 0 where
  pub method : ℕ
  pub place : ℕ
  pub dimension : ℕ
  pub kind : List ℕ

abbrev pub makings_of : ℕ → List Constant → Option Body → List Making
makings_of method pool None = []
makings_of method pool (Some body) =
    flat_map (λ placed. map (λ made. record { method = method; place = placed.0; dimension = made.0; kind = made.1 }) (enumerate_from 0 (made_by pool placed.1))) body.code

-- all of them, by class, method, place and dimension
abbrev pub makings : List ClassFile → List Making
makings classes = flat_map (λ entry. makings_of entry.0 entry.1.pool entry.1.member.body) (enumerate_from 0 (methods_of classes))

-- the kinds of the objects that the machine and its natives place: those of the fixed sites
abbrev pub fixed_kinds : List (List ℕ)
fixed_kinds =
    codes "[Ljava/lang/String;" ∷ codes "java/lang/String" ∷ codes "[C" ∷ codes "java/io/PrintStream" ∷ codes "java/io/InputStream"
    ∷ codes "java/lang/String" ∷ codes "[C" ∷ codes "java/lang/Class" ∷ codes "java/lang/String" ∷ codes "[C" ∷ codes "[C"
    ∷ codes "java/lang/Integer" ∷ codes "java/lang/Long" ∷ codes "java/lang/Character" ∷ codes "java/lang/Boolean" ∷ codes "[Ljava/lang/Throwable;"
    ∷ codes "java/lang/NullPointerException" ∷ codes "java/lang/ArithmeticException" ∷ codes "java/lang/ArrayIndexOutOfBoundsException"
    ∷ codes "java/lang/NegativeArraySizeException" ∷ codes "java/lang/ArrayStoreException" ∷ codes "java/lang/ClassCastException"
    ∷ codes "java/lang/StackOverflowError" ∷ codes "java/lang/ExceptionInInitializerError" ∷ codes "java/lang/NoClassDefFoundError"
    ∷ codes "java/lang/IncompatibleClassChangeError" ∷ codes "java/lang/AbstractMethodError" ∷ codes "java/lang/StringIndexOutOfBoundsException"
    ∷ codes "java/lang/NumberFormatException" ∷ codes "java/lang/IllegalArgumentException" ∷ codes "java/lang/CloneNotSupportedException"
    ∷ codes "java/lang/IndexOutOfBoundsException" ∷ []

-- the kinds that an instruction names or makes
abbrev pub member_kinds : Option MemberNames → List (List ℕ)
member_kinds None = []
member_kinds (Some member) = kinds_of_name member.class

abbrev pub insn_kinds : List Constant → Insn → List (List ℕ)
insn_kinds pool insn =
    flat_map kinds_of_name (listed (named_in pool insn.operand)) ++ member_kinds (option_and_then (member_at pool) (index_in insn.operand))
    ++ flat_map kinds_of_name (made_by pool insn)

-- those that a handler or a frame names
abbrev pub handler_kinds : List Constant → Handler → List (List ℕ)
handler_kinds pool handler = flat_map kinds_of_name (listed (class_at pool handler.catch_type))

abbrev pub type_kinds : List Constant → MapType → List (List ℕ)
type_kinds pool (types.Object class) = flat_map kinds_of_name (listed (class_at pool class))
type_kinds pool other = []

abbrev pub frame_kinds : List Constant → MapFrame → List (List ℕ)
frame_kinds pool frame = flat_map (type_kinds pool) (frame.locals ++ frame.stack)

abbrev pub body_kinds : List Constant → Option Body → List (List ℕ)
body_kinds pool None = []
body_kinds pool (Some body) =
    flat_map (λ placed. insn_kinds pool placed.1) body.code ++ flat_map (handler_kinds pool) body.handlers
    ++ flat_map (frame_kinds pool) body.frames

-- those of a field's type, and of the types of a descriptor
abbrev pub field_kinds : List Constant → Field → List (List ℕ)
field_kinds pool field = kinds_of_type (or_none (text_at pool field.descriptor))

abbrev pub descriptor_kinds : List Constant → ℕ → List (List ℕ)
descriptor_kinds pool index = flat_map kinds_of_type (types_of (or_none (text_at pool index)))

abbrev pub method_kinds : List Constant → Method → List (List ℕ)
method_kinds pool method = descriptor_kinds pool method.descriptor ++ body_kinds pool method.body

abbrev pub class_kinds : ClassFile → List (List ℕ)
class_kinds class =
    flat_map (field_kinds class.pool) class.fields ++ flat_map (method_kinds class.pool) class.methods

-- the kinds of a program by name: its classes by their numbers, then the arrays and the names without a class that fields,
-- methods, instructions, handlers and frames name or make, with what arrays consist of, and those of which the machine places
-- objects itself
abbrev pub named_kinds : List ClassFile → List (List ℕ)
named_kinds classes = map name_of classes ++ flat_map class_kinds classes ++ flat_map kinds_of_name fixed_kinds

abbrev pub kinds : List ClassFile → List (List ℕ)
kinds classes = firsts (named_kinds classes)

-- the text of the error of a division by zero, and then the texts of strings: those of static fields' values, and those that
-- instructions load
abbrev pub is_load : ℕ → Bool
is_load opcode = opcode == opcodes.LDC || opcode == opcodes.LDC_W

abbrev pub insn_texts : List Constant → Insn → List (List ℕ)
insn_texts pool insn = if is_load insn.opcode then listed (option_and_then (string_at pool) (index_in insn.operand)) else []

abbrev pub field_texts_of : List Constant → Field → List (List ℕ)
field_texts_of pool field = if has_flag acc_static field.flags.0 then listed (option_and_then (string_at pool) field.constant) else []

abbrev pub body_texts : List Constant → Option Body → List (List ℕ)
body_texts pool None = []
body_texts pool (Some body) = flat_map (λ placed. insn_texts pool placed.1) body.code

abbrev pub class_texts : ClassFile → List (List ℕ)
class_texts class =
    flat_map (field_texts_of class.pool) class.fields ++ flat_map (λ method. body_texts class.pool method.body) class.methods

abbrev pub divide_text : List ℕ
divide_text = codes "/ by zero"

abbrev pub constants : List ClassFile → List (List ℕ)
constants classes = firsts (divide_text ∷ flat_map class_texts classes)
