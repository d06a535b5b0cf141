-- Small methods, for the laws on what is typed.
use Rattle.std.specs.Prelude.{ℕ, pos, Bool, true, false, List, [], ◌∷◌, ◌++◌, Option, Some, None, codes, replicate}
use Rattle.cb_text.specs.declared.constant.Constant.{Constant}
use Rattle.cb_text.specs.declared.constant.Constant.TheVariants as constants
use Rattle.cb_insn.specs.declared.insn.Insn.{Insn}
use Rattle.cb_insn.specs.declared.insn.Operand.{Operand}
use Rattle.cb_insn.specs.declared.insn.Operand.TheVariants as operands
use Rattle.cb_insn.specs.declared.opcode.TheConstants as opcodes
use Rattle.cb_classfile.specs.declared.body.Body.{Body}
use Rattle.cb_classfile.specs.declared.class.ClassFile.{ClassFile}
use Rattle.cb_classfile.specs.declared.frame_map.MapFrame.{MapFrame}
use Rattle.cb_classfile.specs.declared.handler.Handler.{Handler}
use Rattle.cb_classfile.specs.declared.map_type.MapType.{MapType}
use Rattle.cb_classfile.specs.declared.map_type.MapType.TheVariants as types
use Rattle.cb_classfile.specs.declared.method.Method.{Method}
use Rattle.cb_kinds.specs.declared.basic.Basic.{Basic}
use Rattle.cb_kinds.specs.declared.basic.Basic.TheVariants as basics
use Rattle.cb_link.specs.Program.{Linked}
use Rattle.cb_verify.specs.Within.{Within}

-- a program of kinds alone: Object is 0, A is 1, arrays of ints are 2, and Throwable is 22
abbrev kinds : List (List ℕ)
kinds = codes "java/lang/Object" ∷ codes "A" ∷ codes "[I" ∷ replicate 19 (codes "B") ++ codes "java/lang/Throwable" ∷ []

-- constants: the class A is at 2, Throwable at 4, Object at 10, and their constructors at 8, 12 and 11
abbrev pool : List Constant
pool =
    constants.Utf8 (codes "A") ∷ constants.Class 1 ∷ constants.Utf8 (codes "java/lang/Throwable") ∷ constants.Class 3
    ∷ constants.Utf8 (codes "<init>") ∷ constants.Utf8 (codes "()V") ∷ constants.NameAndType 5 6 ∷ constants.Methodref 2 7
    ∷ constants.Utf8 (codes "java/lang/Object") ∷ constants.Class 9 ∷ constants.Methodref 10 7 ∷ constants.Methodref 4 7 ∷ []

abbrev pub throwable : MapType
throwable = types.Object 4

abbrev file : List Method → ClassFile
file methods =
    record { minor = 0; major = 52; pool = pool; flags = record { 0 = 0 }; this_class = 2; super_class = 10; interfaces = []; fields = []; methods = methods }

abbrev program : Option Basic → Body → Linked
program result body =
    record { classes = file [] ∷ file (record { flags = record { 0 = 0 }; name = 5; descriptor = 6; body = Some body } ∷ []) ∷ []; kinds = kinds; methods = record { class = 1; place = 0; parameters = []; result = result } ∷ []; fields = []; fixed = []; sites = []; constants = []; main_class = 1; main_method = 0 }

-- a method of A, with its result, and a static one that gives nothing, a constructor
abbrev pub body : ℕ → ℕ → List (ℕ × Insn) → List Handler → List MapFrame → Body
body max_stack max_locals code handlers frames =
    record { max_stack = max_stack; max_locals = max_locals; code = code; handlers = handlers; frames = frames }

abbrev pub method : Bool → Bool → Option Basic → Body → Within
method is_static is_constructor result body =
    record { program = program result body; number = 0; class = 1; is_static = is_static; is_constructor = is_constructor; body = body }

abbrev pub static : Body → Within
static body = method true false None body

abbrev pub constructor : Body → Within
constructor body = method false true None body

-- instructions at places, and frames
abbrev pub insn : ℕ → ℕ → Operand → ℕ × Insn
insn place opcode operand = (place, record { opcode = opcode; wide = false; operand = operand })

abbrev pub plain : ℕ → ℕ → ℕ × Insn
plain place opcode = insn place opcode operands.Nothing

abbrev pub frame : ℕ → ℕ → List MapType → List MapType → MapFrame
frame kind delta locals stack = record { kind = kind; delta = delta; locals = locals; stack = stack }

-- goto past itself, without a frame at its target
abbrev pub without_frame : Within
without_frame = static (body 0 1 (insn 0 opcodes.GOTO (operands.Branch 3) ∷ plain 3 opcodes.RETURN ∷ []) [] [])

-- an int for a reference
abbrev pub int_for_reference : Within
int_for_reference =
    method true false (Some (basics.Reference 0)) (body 1 0 (plain 0 opcodes.ICONST_1 ∷ plain 1 opcodes.ARETURN ∷ []) [] [])

-- a loop over an int, with a frame of a kind at its head
abbrev pub looping : List MapFrame → Within
looping frames =
    static (body 2 1
    (plain 0 opcodes.ICONST_0 ∷ plain 1 opcodes.ISTORE_0 ∷ insn 2 opcodes.IINC (operands.Increase 0 (pos 1)) ∷ plain 5 opcodes.ILOAD_0
    ∷ insn 6 opcodes.BIPUSH (operands.Number (pos 10)) ∷ insn 8 opcodes.IF_ICMPLT (operands.Branch 2) ∷ plain 11 opcodes.RETURN ∷ []) [] frames)

-- a handler that covers two stores, and takes nothing or an int in the first local variable
abbrev pub handled : List MapType → Within
handled locals =
    static (body 1 1
    (plain 0 opcodes.ICONST_0 ∷ plain 1 opcodes.ISTORE_0 ∷ plain 2 opcodes.ICONST_1 ∷ plain 3 opcodes.ISTORE_0 ∷ plain 4 opcodes.RETURN
    ∷ plain 5 opcodes.ATHROW ∷ []) (record { start = 0; «end» = 4; handler = 5; catch_type = 0 } ∷ [])
    (frame 255 5 locals (throwable ∷ []) ∷ []))

-- a constructor that calls another, or doesn't
abbrev pub calls_another : ℕ → Within
calls_another other =
    constructor (body 1 1 (plain 0 opcodes.ALOAD_0 ∷ insn 1 opcodes.INVOKESPECIAL (operands.Pool other) ∷ plain 4 opcodes.RETURN ∷ []) [] [])

abbrev pub returns_at_once : Within
returns_at_once = constructor (body 1 1 (plain 0 opcodes.RETURN ∷ []) [] [])

-- a long below an int, duplicated
abbrev pub duplicates : ℕ → Within
duplicates max_stack =
    static (body max_stack 0
    (plain 0 opcodes.LCONST_0 ∷ plain 1 opcodes.ICONST_1 ∷ plain 2 opcodes.DUP_X2 ∷ plain 3 opcodes.POP ∷ plain 4 opcodes.POP2
    ∷ plain 5 opcodes.POP ∷ plain 6 opcodes.RETURN ∷ []) [] [])

-- a switch with two targets, the second of which has a frame that asks for an int
abbrev pub switches : List MapFrame → Within
switches frames =
    static (body 1 1
    (plain 0 opcodes.ICONST_0 ∷ insn 1 opcodes.TABLESWITCH (operands.Table 24 (pos 0) (25 ∷ [])) ∷ plain 24 opcodes.RETURN
    ∷ plain 25 opcodes.RETURN ∷ []) [] frames)

-- an object made, constructed and stored, and one whose constructor is called twice
abbrev pub makes : List (ℕ × Insn) → Within
makes more =
    static (body 2 1
    (insn 0 opcodes.NEW (operands.Pool 2) ∷ plain 3 opcodes.DUP ∷ insn 4 opcodes.INVOKESPECIAL (operands.Pool 8) ∷ more) [] [])

-- a long in two local variables, of which the second is written over
abbrev pub overwrites : ℕ → Within
overwrites load =
    static (body 2 2
    (plain 0 opcodes.LCONST_0 ∷ plain 1 opcodes.LSTORE_0 ∷ plain 2 opcodes.ICONST_0 ∷ plain 3 opcodes.ISTORE_1 ∷ plain 4 load ∷ []) [] [])

-- a long on the stack where a frame stands
abbrev pub leaves_long : List MapType → Within
leaves_long stack =
    static (body 2 0 (plain 0 opcodes.LCONST_0 ∷ insn 1 opcodes.GOTO (operands.Branch 4) ∷ plain 4 opcodes.RETURN ∷ []) []
    (frame 255 4 [] stack ∷ []))
