-- What this machine leaves out of class files, in the order in which it is looked for.
use Rattle.std.specs.Prelude.{ℕ, Bool, true, false, List, [], ◌∷◌, ◌++◌, map, Option, Some, None, option_map, option_and_then, codes, bit_and, nat_eq, nat_le, ◌==◌, ◌||◌, ◌&&◌, if◌then◌else◌}
use Rattle.std.specs.List.{starts_with}
use Rattle.cb_text.specs.declared.constant.Constant.{Constant}
use Rattle.cb_text.specs.declared.constant.Constant.TheVariants as constants
use Rattle.cb_insn.specs.declared.insn.Insn.{Insn}
use Rattle.cb_insn.specs.declared.opcode.TheConstants as opcodes
use Rattle.cb_classfile.specs.declared.array_code.TheConstants as array_codes
use Rattle.cb_insn.specs.declared.insn.Operand.{Operand}
use Rattle.cb_insn.specs.declared.insn.Operand.TheVariants.{ArrayCode}
use Rattle.cb_names.specs.declared.floating.Floating.{Floating}
use Rattle.cb_names.specs.declared.floating.Floating.TheVariants as floating
use Rattle.cb_names.specs.Descriptors.{floating_in}
use Rattle.cb_classfile.specs.declared.body.Body.{Body}
use Rattle.cb_classfile.specs.declared.class.ClassFile.{ClassFile}
use Rattle.cb_classfile.specs.declared.feature.Feature.{Feature}
use Rattle.cb_classfile.specs.declared.feature.Feature.TheVariants.{Float, Double, MethodHandle, MethodType, InvokeDynamic, LangRef, Synchronized, Native, Finalize, Monitor, Jsr}
use Rattle.cb_classfile.specs.declared.frame_map.MapFrame.{MapFrame}
use Rattle.cb_classfile.specs.declared.map_type.MapType.{MapType}
use Rattle.cb_classfile.specs.declared.map_type.MapType.TheVariants as types
use Rattle.cb_classfile.specs.declared.method.Method.{Method}
use Rattle.cb_classfile.specs.Attributes.{is_text}
use Rattle.cb_classfile.specs.Flags.{acc_synchronized, acc_native}
use Rattle.cb_classfile.specs.Pool.{text_at}

-- the first item that there is
abbrev pub first_of : List (Option Feature) → Option Feature
first_of [] = None
first_of (Some item ∷ items) = Some item
first_of (None ∷ items) = first_of items

abbrev pub item_if : Bool → Feature → Option Feature
item_if true item = Some item
item_if false item = None

-- a descriptor has the first floating-point type in it
abbrev pub feature_of : Floating → Feature
feature_of floating.Float = Float
feature_of floating.Double = Double

abbrev pub descriptor_item : List ℕ → Option Feature
descriptor_item text = option_map feature_of (floating_in text)

abbrev pub descriptor_item_at : List Constant → ℕ → Option Feature
descriptor_item_at pool index = option_and_then descriptor_item (text_at pool index)

-- a class that is an array has the item of its descriptor, and one under java/lang/ref/ its own
abbrev pub is_reference_class : List ℕ → Bool
is_reference_class name = starts_with nat_eq name (codes "java/lang/ref/")

abbrev pub is_array : List ℕ → Bool
is_array name = starts_with nat_eq name (codes "[")

abbrev pub class_item : List ℕ → Option Feature
class_item name = if is_array name then descriptor_item name else item_if (is_reference_class name) LangRef

-- the item of a constant
abbrev pub constant_item : List Constant → Constant → Option Feature
constant_item pool (constants.Float bits) = Some Float
constant_item pool (constants.Double bits) = Some Double
constant_item pool (constants.MethodHandle kind reference) = Some MethodHandle
constant_item pool (constants.MethodType descriptor) = Some MethodType
constant_item pool (constants.InvokeDynamic bootstrap member) = Some InvokeDynamic
constant_item pool (constants.Class name) = option_and_then class_item (text_at pool name)
constant_item pool (constants.NameAndType name descriptor) = descriptor_item_at pool descriptor
constant_item pool other = None

-- the item of a type in a frame
abbrev pub type_item : MapType → Option Feature
type_item types.Float = Some Float
type_item types.Double = Some Double
type_item other = None

abbrev pub frame_item : MapFrame → Option Feature
frame_item frame = first_of (map type_item frame.locals ++ map type_item frame.stack)

-- the opcodes of instructions with an operand or a result of type float, and those of the others of type double
-- (JVMS §6.5): constants, loads, stores, arithmetic, conversions, comparisons and returns
abbrev pub is_between : ℕ → ℕ → ℕ → Bool
is_between low high opcode = nat_le low opcode && nat_le opcode high

abbrev pub is_float : ℕ → Bool
is_float opcode =
    is_between opcodes.FCONST_0 opcodes.FCONST_2 opcode
    || opcode == opcodes.FLOAD || is_between opcodes.FLOAD_0 opcodes.FLOAD_3 opcode || opcode == opcodes.FALOAD
    || opcode == opcodes.FSTORE || is_between opcodes.FSTORE_0 opcodes.FSTORE_3 opcode || opcode == opcodes.FASTORE
    || opcode == opcodes.FADD || opcode == opcodes.FSUB || opcode == opcodes.FMUL
    || opcode == opcodes.FDIV || opcode == opcodes.FREM || opcode == opcodes.FNEG
    || opcode == opcodes.I2F || opcode == opcodes.L2F || is_between opcodes.F2I opcodes.F2D opcode || opcode == opcodes.D2F
    || is_between opcodes.FCMPL opcodes.FCMPG opcode || opcode == opcodes.FRETURN

abbrev pub is_double : ℕ → Bool
is_double opcode =
    is_between opcodes.DCONST_0 opcodes.DCONST_1 opcode
    || opcode == opcodes.DLOAD || is_between opcodes.DLOAD_0 opcodes.DLOAD_3 opcode || opcode == opcodes.DALOAD
    || opcode == opcodes.DSTORE || is_between opcodes.DSTORE_0 opcodes.DSTORE_3 opcode || opcode == opcodes.DASTORE
    || opcode == opcodes.DADD || opcode == opcodes.DSUB || opcode == opcodes.DMUL
    || opcode == opcodes.DDIV || opcode == opcodes.DREM || opcode == opcodes.DNEG
    || opcode == opcodes.I2D || opcode == opcodes.L2D || is_between opcodes.D2I opcodes.D2L opcode
    || is_between opcodes.DCMPL opcodes.DCMPG opcode || opcode == opcodes.DRETURN

-- the item of an opcode: besides these, the subroutines (jsr, ret, jsr_w), invokedynamic, and the monitors
abbrev pub opcode_item : ℕ → Option Feature
opcode_item opcode =
    if is_float opcode then Some Float
    else if is_double opcode then Some Double
    else if opcode == opcodes.JSR || opcode == opcodes.RET || opcode == opcodes.JSR_W then Some Jsr
    else if opcode == opcodes.INVOKEDYNAMIC then Some InvokeDynamic
    else item_if (opcode == opcodes.MONITORENTER || opcode == opcodes.MONITOREXIT) Monitor

-- the item of a new array, by its code (JVMS table 6.5.newarray-A)
abbrev pub operand_item : Operand → Option Feature
operand_item (ArrayCode code) = if code == array_codes.FLOAT then Some Float else item_if (code == array_codes.DOUBLE) Double
operand_item other = None

abbrev pub insn_item : Insn → Option Feature
insn_item insn = first_of (opcode_item insn.opcode ∷ operand_item insn.operand ∷ [])

-- the items of a body: its frames' types, and then its instructions by place
abbrev pub body_items : Option Body → List (Option Feature)
body_items None = []
body_items (Some body) = map frame_item body.frames ++ map (λ placed. insn_item placed.1) body.code

-- a method named finalize that takes and gives nothing
abbrev pub is_finalizer : List Constant → Method → Bool
is_finalizer pool method = is_text (codes "finalize") (text_at pool method.name) && is_text (codes "()V") (text_at pool method.descriptor)

abbrev pub method_item : List Constant → Method → Option Feature
method_item pool method =
    first_of (
    item_if (bit_and method.flags.0 acc_synchronized == acc_synchronized) Synchronized
    ∷ item_if (bit_and method.flags.0 acc_native == acc_native) Native
    ∷ item_if (is_finalizer pool method) Finalize
    ∷ descriptor_item_at pool method.descriptor
    ∷ body_items method.body
    )

-- the first item of a class: in its pool by index, in its fields' descriptors, in its methods
abbrev pub unsupported : ClassFile → Option Feature
unsupported class =
    first_of (
    map (constant_item class.pool) class.pool
    ++ (map (λ field. descriptor_item_at class.pool field.descriptor) class.fields ++ map (method_item class.pool) class.methods)
    )
