-- The names of instructions (JVMS chapters 6 and 7).
use Rattle.std.specs.Prelude.{ℕ, List, [], ◌∷◌, slice_get, codes}
use Rattle.std.specs.List.{flat_map}
use Rattle.std.specs.Option.{unwrap_or}
use Rattle.cb_asm_line.specs.Lines.{Word, words_of}

-- the names in the order of their opcodes, from 0 on: constants; loads; stores; operations of the stack; arithmetic and
-- logic; conversions; comparisons; control; references; and the others
abbrev pub mnemonics : List Word
mnemonics =
    flat_map words_of (
    codes "nop aconst_null iconst_m1 iconst_0 iconst_1 iconst_2 iconst_3 iconst_4 iconst_5 lconst_0 lconst_1"
    ∷ codes "fconst_0 fconst_1 fconst_2 dconst_0 dconst_1 bipush sipush ldc ldc_w ldc2_w"
    ∷ codes "iload lload fload dload aload iload_0 iload_1 iload_2 iload_3 lload_0 lload_1 lload_2 lload_3"
    ∷ codes "fload_0 fload_1 fload_2 fload_3 dload_0 dload_1 dload_2 dload_3 aload_0 aload_1 aload_2 aload_3"
    ∷ codes "iaload laload faload daload aaload baload caload saload"
    ∷ codes "istore lstore fstore dstore astore istore_0 istore_1 istore_2 istore_3 lstore_0 lstore_1 lstore_2 lstore_3"
    ∷ codes "fstore_0 fstore_1 fstore_2 fstore_3 dstore_0 dstore_1 dstore_2 dstore_3 astore_0 astore_1 astore_2 astore_3"
    ∷ codes "iastore lastore fastore dastore aastore bastore castore sastore"
    ∷ codes "pop pop2 dup dup_x1 dup_x2 dup2 dup2_x1 dup2_x2 swap"
    ∷ codes "iadd ladd fadd dadd isub lsub fsub dsub imul lmul fmul dmul idiv ldiv fdiv ddiv irem lrem frem drem"
    ∷ codes "ineg lneg fneg dneg ishl lshl ishr lshr iushr lushr iand land ior lor ixor lxor iinc"
    ∷ codes "i2l i2f i2d l2i l2f l2d f2i f2l f2d d2i d2l d2f i2b i2c i2s"
    ∷ codes "lcmp fcmpl fcmpg dcmpl dcmpg ifeq ifne iflt ifge ifgt ifle"
    ∷ codes "if_icmpeq if_icmpne if_icmplt if_icmpge if_icmpgt if_icmple if_acmpeq if_acmpne"
    ∷ codes "goto jsr ret tableswitch lookupswitch ireturn lreturn freturn dreturn areturn return"
    ∷ codes "getstatic putstatic getfield putfield invokevirtual invokespecial invokestatic invokeinterface invokedynamic"
    ∷ codes "new newarray anewarray arraylength athrow checkcast instanceof monitorenter monitorexit"
    ∷ codes "wide multianewarray ifnull ifnonnull goto_w jsr_w"
    ∷ []
    )

-- the name of an opcode. No instruction has an opcode above the last
abbrev pub mnemonic : ℕ → Word
mnemonic opcode = unwrap_or (slice_get mnemonics opcode) []

-- the primitive types in the order of their codes, the first of which is 4 (JVMS table 6.5.newarray-A)
abbrev pub array_types : List Word
array_types = words_of (codes "boolean char float double byte short int long")
