-- The constants that instructions name (JVMS §4.9.1, §6.5).
use Rattle.std.specs.Prelude.{◌≡◌, ◌⊎◌, ℕ, Bool, true, false, List, Option, Some, None, IsSomeAnd, IfSome, nat_le, ◌==◌, ◌||◌, ◌&&◌, if◌then◌else◌}
use Rattle.std.specs.List.{AllByRecursion}
use Rattle.cb_text.specs.declared.constant.Constant.{Constant}
use Rattle.cb_text.specs.declared.constant.Constant.TheVariants as constants
use Rattle.cb_text.specs.Pool.{constant_at}
use Rattle.cb_insn.specs.declared.insn.Insn.{Insn}
use Rattle.cb_insn.specs.declared.insn.Operand.{Operand}
use Rattle.cb_insn.specs.declared.insn.Operand.TheVariants as operands
use Rattle.cb_insn.specs.declared.opcode.TheConstants as opcodes
use Rattle.cb_classfile.specs.declared.body.Body.{Body}
use Rattle.cb_classfile.specs.declared.needed.ConstantKind.{ConstantKind}
use Rattle.cb_classfile.specs.declared.needed.ConstantKind.TheVariants.{Loadable, Wide, Field, ClassMethod, AnyMethod, InterfaceMethod, Dynamic, Class}

-- the index of the pool that stands in an operand
abbrev pub index_in : Operand → Option ℕ
index_in (operands.Pool index) = Some index
index_in (operands.Dimensions index dimensions) = Some index
index_in (operands.Interface index count) = Some index
index_in other = None

-- the kind of constant that the instruction of an opcode names. Other opcodes have no index
abbrev pub kind_needed : ℕ → Option ConstantKind
kind_needed opcode =
    if opcode == opcodes.LDC || opcode == opcodes.LDC_W then Some Loadable
    else if opcode == opcodes.LDC2_W then Some Wide
    else if nat_le opcodes.GETSTATIC opcode && nat_le opcode opcodes.PUTFIELD then Some Field
    else if opcode == opcodes.INVOKEVIRTUAL then Some ClassMethod
    else if opcode == opcodes.INVOKESPECIAL || opcode == opcodes.INVOKESTATIC then Some AnyMethod
    else if opcode == opcodes.INVOKEINTERFACE then Some InterfaceMethod
    else if opcode == opcodes.INVOKEDYNAMIC then Some Dynamic
    else if opcode == opcodes.NEW || opcode == opcodes.ANEWARRAY || opcode == opcodes.CHECKCAST || opcode == opcodes.INSTANCEOF || opcode == opcodes.MULTIANEWARRAY then Some Class
    else None

-- whether a constant is of a kind. What ldc may load is an int, a float, a string, a class, a method handle or a method
-- type; the others say what they are
abbrev pub is_of_kind : ConstantKind → Constant → Bool
is_of_kind Loadable (constants.Integer number) = true
is_of_kind Loadable (constants.Float bits) = true
is_of_kind Loadable (constants.String text) = true
is_of_kind Loadable (constants.Class name) = true
is_of_kind Loadable (constants.MethodHandle kind reference) = true
is_of_kind Loadable (constants.MethodType descriptor) = true
is_of_kind Wide (constants.Long number) = true
is_of_kind Wide (constants.Double bits) = true
is_of_kind Field (constants.Fieldref holder member) = true
is_of_kind ClassMethod (constants.Methodref holder member) = true
is_of_kind AnyMethod (constants.Methodref holder member) = true
is_of_kind AnyMethod (constants.InterfaceMethodref holder member) = true
is_of_kind InterfaceMethod (constants.InterfaceMethodref holder member) = true
is_of_kind Dynamic (constants.InvokeDynamic bootstrap member) = true
is_of_kind Class (constants.Class name) = true
is_of_kind kind constant = false

-- a constant of this kind stands at the index
abbrev pub StandsAt : List Constant → ℕ → ConstantKind → Type 0
StandsAt pool index kind = IsSomeAnd (constant_at pool index) (λ constant. is_of_kind kind constant ≡ true)

-- the index in an instruction, if there is one, names a constant of the kind that the instruction needs
abbrev pub HasConstant : List Constant → Insn → Type 0
HasConstant pool insn = IfSome (index_in insn.operand) (λ index. IsSomeAnd (kind_needed insn.opcode) (StandsAt pool index))

-- invokespecial and invokestatic
abbrev pub IsDirectCall : ℕ → Type 0
IsDirectCall opcode = (opcode ≡ opcodes.INVOKESPECIAL) ⊎ (opcode ≡ opcodes.INVOKESTATIC)

abbrev pub NamesInterfaceMethod : List Constant → Insn → Type 0
NamesInterfaceMethod pool insn = IsSomeAnd (index_in insn.operand) (λ index. StandsAt pool index InterfaceMethod)

-- these name a method of a class, and none of an interface
abbrev pub CallsClass : List Constant → Insn → Type 0
CallsClass pool insn = IsDirectCall insn.opcode → ¬ NamesInterfaceMethod pool insn

abbrev pub CallsClasses : List Constant → Body → Type 0
CallsClasses pool body = AllByRecursion (λ placed. CallsClass pool placed.1) body.code
