-- Which form of operand each opcode has (JVMS chapter 6), stated once.
use Rattle.std.specs.Prelude.{ℕ, Bool, true, false, List, [], ◌∷◌, Option, Some, None, option_and_then, nat_lt, nat_le, if◌then◌else◌}
use Rattle.cb_insn.specs.declared.form.Form.{Form}
use Rattle.cb_insn.specs.declared.form.Form.TheVariants.{Plain, Byte, Short, PoolByte, Pool, Local, WideLocal, Increase, WideIncrease, Branch, LongBranch, ArrayCode, Dimensions, Interface, Dynamic, Table, Lookup}
use Rattle.cb_insn.specs.declared.opcode.TheConstants as opcodes

-- the form behind an opcode other than `wide`: each run of opcodes ends below the next name. There is none above jsr_w
abbrev pub form_of : ℕ → Option Form
form_of opcode =
    if nat_lt opcode opcodes.BIPUSH then Some Plain
    else if nat_lt opcode opcodes.SIPUSH then Some Byte
    else if nat_lt opcode opcodes.LDC then Some Short
    else if nat_lt opcode opcodes.LDC_W then Some PoolByte
    else if nat_lt opcode opcodes.ILOAD then Some Pool
    else if nat_lt opcode opcodes.ILOAD_0 then Some Local
    else if nat_lt opcode opcodes.ISTORE then Some Plain
    else if nat_lt opcode opcodes.ISTORE_0 then Some Local
    else if nat_lt opcode opcodes.IINC then Some Plain
    else if nat_lt opcode opcodes.I2L then Some Increase
    else if nat_lt opcode opcodes.IFEQ then Some Plain
    else if nat_lt opcode opcodes.RET then Some Branch
    else if nat_lt opcode opcodes.TABLESWITCH then Some Local
    else if nat_lt opcode opcodes.LOOKUPSWITCH then Some Table
    else if nat_lt opcode opcodes.IRETURN then Some Lookup
    else if nat_lt opcode opcodes.GETSTATIC then Some Plain
    else if nat_lt opcode opcodes.INVOKEINTERFACE then Some Pool
    else if nat_lt opcode opcodes.INVOKEDYNAMIC then Some Interface
    else if nat_lt opcode opcodes.NEW then Some Dynamic
    else if nat_lt opcode opcodes.NEWARRAY then Some Pool
    else if nat_lt opcode opcodes.ANEWARRAY then Some ArrayCode
    else if nat_lt opcode opcodes.ARRAYLENGTH then Some Pool
    else if nat_lt opcode opcodes.CHECKCAST then Some Plain
    else if nat_lt opcode opcodes.MONITORENTER then Some Pool
    else if nat_lt opcode opcodes.WIDE then Some Plain
    else if nat_lt opcode opcodes.MULTIANEWARRAY then None
    else if nat_lt opcode opcodes.IFNULL then Some Dimensions
    else if nat_lt opcode opcodes.GOTO_W then Some Branch
    else if nat_le opcode opcodes.JSR_W then Some LongBranch
    else None

-- the form behind `wide` and an opcode, which is one of a local or `iinc`
abbrev pub widened : Form → Option Form
widened Local = Some WideLocal
widened Increase = Some WideIncrease
widened other = None

abbrev pub wide_form_of : ℕ → Option Form
wide_form_of opcode = option_and_then widened (form_of opcode)

-- what stands before an operand, an opcode or `wide` and an opcode, and the form that it gives the operand
abbrev pub head_bytes : Bool → ℕ → List ℕ
head_bytes false opcode = opcode ∷ []
head_bytes true opcode = opcodes.WIDE ∷ opcode ∷ []

abbrev pub head_form : Bool → ℕ → Option Form
head_form false opcode = form_of opcode
head_form true opcode = wide_form_of opcode
