-- Small programs, for the laws on what they print and how they end.
use Rattle.std.specs.Prelude.{ℕ, ℤ, pos, ◌+◌, List, [], ◌∷◌, ◌++◌, Some, codes, Option, map, slice_get, option_map, None}
use Rattle.cb_classfile.specs.declared.class.ClassFile.{ClassFile}
use Rattle.cb_classfile.specs.Pool.{text_at}
use Rattle.cb_classfile.specs.declared.field.Field.{Field}
use Rattle.cb_insn.specs.declared.insn.Operand.TheVariants as operands
use Rattle.cb_insn.specs.declared.opcode.TheConstants as opcodes
use Rattle.cb_library.specs.Flags.{acc_super, final, private, public, static}
use Rattle.cb_library.specs.Names as names
use Rattle.cb_library.specs.Rows as rows
use Rattle.cb_link.specs.Numbers.{Numbered, acc_enum, fields_of, name_of, or_none}
use Rattle.cb_link.specs.Slots.{object_fields, static_at}
use Rattle.cb_link.specs.Program.{Linked, linked}
use Rattle.cb_link.specs.Resolving.{main_method}
use Rattle.cb_machine.specs.Laid.{HandlerRow, Line, MethodRow, OfKind, Plainly, Row, laid, library}
use Rattle.cb_machine.specs.Machine.{Machine, or_zero}

-- instructions by their names
abbrev plain : ℕ → Line
plain opcode = Row (rows.Plain opcode)

abbrev go : ℕ → ℕ → Line
go opcode target = Row (rows.Branch opcode target)

abbrev bipush : ℤ → Line
bipush number = Plainly opcodes.BIPUSH (operands.Number number) 2

abbrev int_array : Line
int_array = Plainly opcodes.NEWARRAY (operands.ArrayCode 10) 2

abbrev out : Line
out = Row (rows.OfField opcodes.GETSTATIC (codes "java/lang/System") (codes "out") (codes "Ljava/io/PrintStream;"))

abbrev prints : List ℕ → Line
prints descriptor = Row (rows.OfMethod opcodes.INVOKEVIRTUAL (codes "java/io/PrintStream") (codes "println") descriptor)

abbrev loads : List ℕ → Line
loads text = Row (rows.LoadText text)

abbrev calls : ℕ → List ℕ → List ℕ → List ℕ → Line
calls opcode holder name descriptor = Row (rows.OfMethod opcode holder name descriptor)

abbrev makes : List ℕ → Line
makes class = Row (rows.OfClass opcodes.NEW class)

-- static methods, main and others, and a class of them
abbrev method : List ℕ → List ℕ → ℕ → ℕ → List Line → List HandlerRow → MethodRow
method name descriptor stack locals code handlers =
    record { flags = public + static; name = name; descriptor = descriptor; body = Some (record { stack = stack; locals = locals; code = code; handlers = handlers }) }

abbrev main : ℕ → ℕ → List Line → List HandlerRow → MethodRow
main stack locals code handlers = method (codes "main") (codes "([Ljava/lang/String;)V") stack locals code handlers

abbrev class : List ℕ → List rows.Field → List MethodRow → ClassFile
class name fields methods =
    laid (record { flags = rows.public_class; name = name; superclass = Some names.object; interfaces = []; fields = fields; methods = methods })

-- a machine of the library's classes and these, of which Main is the main one
abbrev machine_of : ℕ → List ClassFile → Machine
machine_of frames classes = record { program = linked classes (codes "Main") (or_zero (main_method classes (codes "Main"))); frames = frames }

abbrev pub machine : List ClassFile → Machine
machine own = machine_of 4096 (library ++ own)

abbrev pub shallow : List ClassFile → Machine
shallow own = machine_of 16 (library ++ own)

abbrev runs : ℕ → ℕ → List Line → List HandlerRow → List ClassFile
runs stack locals code handlers = class (codes "Main") [] (main stack locals code handlers ∷ []) ∷ []

-- main returns at once
abbrev pub returns : List ClassFile
returns = runs 0 1 (plain opcodes.RETURN ∷ []) []

-- one line
abbrev pub hello : List ClassFile
hello = runs 2 1 (out ∷ loads (codes "Hello") ∷ prints (codes "(Ljava/lang/String;)V") ∷ plain opcodes.RETURN ∷ []) []

-- an object's identity hash before and after a request to collect, and whether two equal texts are one object
abbrev hash : Line
hash = calls opcodes.INVOKEVIRTUAL names.object (codes "hashCode") (codes "()I")

abbrev pub identity : List ClassFile
identity =
    runs 3 2
    (makes names.object ∷ plain opcodes.DUP ∷ calls opcodes.INVOKESPECIAL names.object (codes "<init>") (codes "()V") ∷ plain opcodes.ASTORE_1
    ∷ out ∷ plain opcodes.ALOAD_1 ∷ hash ∷ prints (codes "(I)V")
    ∷ calls opcodes.INVOKESTATIC (codes "java/lang/System") (codes "gc") (codes "()V")
    ∷ out ∷ plain opcodes.ALOAD_1 ∷ hash ∷ prints (codes "(I)V")
    ∷ out ∷ loads (codes "a") ∷ loads (codes "a") ∷ go opcodes.IF_ACMPNE 19
    ∷ plain opcodes.ICONST_1 ∷ go opcodes.GOTO 20 ∷ plain opcodes.ICONST_0 ∷ prints (codes "(Z)V") ∷ plain opcodes.RETURN ∷ []) []

-- a division by zero whose message is printed, the least int by -1 with its remainder, arrays of a negative size and casts that fail
abbrev message : Line
message = calls opcodes.INVOKEVIRTUAL (codes "java/lang/Throwable") (codes "getMessage") (codes "()Ljava/lang/String;")

abbrev taking : ℕ → ℕ → ℕ → List ℕ → HandlerRow
taking from to at class = record { from = from; to = to; at = at; class = class }

abbrev pub divides : List ClassFile
divides =
    runs 3 2
    (plain opcodes.ICONST_1 ∷ plain opcodes.ICONST_0 ∷ plain opcodes.IDIV ∷ plain opcodes.RETURN
    ∷ plain opcodes.ASTORE_1 ∷ out ∷ plain opcodes.ALOAD_1 ∷ message ∷ prints (codes "(Ljava/lang/String;)V")
    ∷ out ∷ plain opcodes.ICONST_1 ∷ bipush (pos 31) ∷ plain opcodes.ISHL ∷ plain opcodes.ICONST_M1 ∷ plain opcodes.IDIV ∷ prints (codes "(I)V")
    ∷ out ∷ plain opcodes.ICONST_1 ∷ bipush (pos 31) ∷ plain opcodes.ISHL ∷ plain opcodes.ICONST_M1 ∷ plain opcodes.IREM ∷ prints (codes "(I)V")
    ∷ out ∷ loads (codes "ab") ∷ calls opcodes.INVOKEVIRTUAL (codes "java/lang/String") (codes "hashCode") (codes "()I") ∷ prints (codes "(I)V")
    ∷ plain opcodes.RETURN ∷ []) (taking 0 3 4 (codes "java/lang/ArithmeticException") ∷ [])

abbrev pub refuses : List ClassFile
refuses =
    runs 2 2
    (plain opcodes.ICONST_M1 ∷ int_array ∷ plain opcodes.RETURN
    ∷ plain opcodes.ASTORE_1 ∷ out ∷ plain opcodes.ALOAD_1 ∷ prints (codes "(Ljava/lang/Object;)V")
    ∷ plain opcodes.ALOAD_0 ∷ Row (rows.OfClass opcodes.CHECKCAST (codes "java/lang/String")) ∷ plain opcodes.RETURN
    ∷ plain opcodes.ASTORE_1 ∷ out ∷ plain opcodes.ALOAD_1 ∷ prints (codes "(Ljava/lang/Object;)V") ∷ plain opcodes.RETURN ∷ [])
    (taking 0 2 3 (codes "java/lang/NegativeArraySizeException") ∷ taking 7 9 10 (codes "java/lang/ClassCastException") ∷ [])

-- an exception that a nested call throws, and nothing catches
abbrev pub throws : List ClassFile
throws =
    class (codes "Main") []
    (main 0 1 (calls opcodes.INVOKESTATIC (codes "Main") (codes "nested") (codes "()V") ∷ plain opcodes.RETURN ∷ []) []
    ∷ method (codes "nested") (codes "()V") 3 0
    (makes (codes "java/lang/RuntimeException") ∷ plain opcodes.DUP ∷ loads (codes "x")
    ∷ calls opcodes.INVOKESPECIAL (codes "java/lang/RuntimeException") (codes "<init>") (codes "(Ljava/lang/String;)V") ∷ plain opcodes.ATHROW ∷ []) []
    ∷ []) ∷ []

-- a class whose initialiser divides by zero, asked for twice
abbrev bad : ClassFile
bad =
    class (codes "Bad") (rows.field static (codes "x") (codes "I") ∷ [])
    (method (codes "<clinit>") (codes "()V") 2 0
    (plain opcodes.ICONST_1 ∷ plain opcodes.ICONST_0 ∷ plain opcodes.IDIV ∷ Row (rows.OfField opcodes.PUTSTATIC (codes "Bad") (codes "x") (codes "I"))
    ∷ plain opcodes.RETURN ∷ []) [] ∷ [])

abbrev asks : Line
asks = Row (rows.OfField opcodes.GETSTATIC (codes "Bad") (codes "x") (codes "I"))

abbrev pub fails : List ClassFile
fails =
    class (codes "Main") []
    (main 2 2
    (asks ∷ plain opcodes.RETURN ∷ plain opcodes.ASTORE_1 ∷ out ∷ plain opcodes.ALOAD_1 ∷ prints (codes "(Ljava/lang/Object;)V")
    ∷ asks ∷ plain opcodes.RETURN ∷ plain opcodes.ASTORE_1 ∷ out ∷ plain opcodes.ALOAD_1 ∷ prints (codes "(Ljava/lang/Object;)V")
    ∷ plain opcodes.RETURN ∷ [])
    (taking 0 2 2 (codes "java/lang/Throwable") ∷ taking 6 8 8 (codes "java/lang/Throwable") ∷ []) ∷ []) ∷ bad ∷ []

-- a method that calls itself until there is no room, which is caught
abbrev pub deep : List ClassFile
deep =
    class (codes "Main") []
    (main 2 2
    (calls opcodes.INVOKESTATIC (codes "Main") (codes "again") (codes "()V") ∷ plain opcodes.RETURN ∷ plain opcodes.ASTORE_1
    ∷ out ∷ loads (codes "deep") ∷ prints (codes "(Ljava/lang/String;)V") ∷ plain opcodes.RETURN ∷ [])
    (taking 0 2 2 (codes "java/lang/StackOverflowError") ∷ [])
    ∷ method (codes "again") (codes "()V") 0 0 (calls opcodes.INVOKESTATIC (codes "Main") (codes "again") (codes "()V") ∷ plain opcodes.RETURN ∷ []) []
    ∷ []) ∷ []

-- an array of arrays, both of the greatest size
abbrev greatest : List Line
greatest = plain opcodes.ICONST_M1 ∷ plain opcodes.ICONST_1 ∷ plain opcodes.IUSHR ∷ []

abbrev pub grids : List ClassFile
grids =
    runs 2 1
    (greatest ++ greatest ++ OfKind opcodes.MULTIANEWARRAY (codes "[[I") (λ index. operands.Dimensions index 2) 4 ∷ plain opcodes.POP
    ∷ plain opcodes.RETURN ∷ []) []

-- exit is called
abbrev pub exits : List ClassFile
exits =
    runs 2 1
    (plain opcodes.ICONST_M1 ∷ calls opcodes.INVOKESTATIC (codes "java/lang/System") (codes "exit") (codes "(I)V") ∷ plain opcodes.RETURN ∷ []) []

-- a switch on the string of the first argument, in the form that javac gives it: by its hash, by the text, and then by a number
abbrev string_call : List ℕ → List ℕ → Line
string_call name descriptor = calls opcodes.INVOKEVIRTUAL (codes "java/lang/String") name descriptor

abbrev pub switches : List ClassFile
switches =
    runs 2 3
    (plain opcodes.ALOAD_0 ∷ plain opcodes.ICONST_0 ∷ plain opcodes.AALOAD ∷ plain opcodes.ASTORE_1 ∷ plain opcodes.ICONST_0
    ∷ plain opcodes.ISTORE_2 ∷ plain opcodes.ALOAD_1 ∷ string_call (codes "hashCode") (codes "()I")
    ∷ Plainly opcodes.LOOKUPSWITCH (operands.Lookup 40 (record { key = pos 3105; target = 28 } ∷ [])) 18
    ∷ plain opcodes.ALOAD_1 ∷ loads (codes "ab") ∷ string_call (codes "equals") (codes "(Ljava/lang/Object;)Z")
    ∷ Plainly opcodes.IFEQ (operands.Branch 40) 3 ∷ plain opcodes.ICONST_1 ∷ plain opcodes.ISTORE_2
    ∷ out ∷ plain opcodes.ILOAD_2 ∷ Plainly opcodes.TABLESWITCH (operands.Table 72 (pos 0) (72 ∷ 68 ∷ [])) 24
    ∷ plain opcodes.ICONST_1 ∷ Plainly opcodes.GOTO (operands.Branch 73) 3 ∷ plain opcodes.ICONST_0 ∷ prints (codes "(I)V")
    ∷ plain opcodes.RETURN ∷ []) []

-- an enum in the form that javac gives it, whose constant is found by its name, and whose constants are counted
abbrev colour_field : List ℕ → Line
colour_field name = Row (rows.OfField opcodes.GETSTATIC (codes "Color") name (codes "LColor;"))

abbrev colour : List ℕ → ℕ → List Line
colour name ordinal =
    makes (codes "Color") ∷ plain opcodes.DUP ∷ loads name ∷ plain ordinal
    ∷ calls opcodes.INVOKESPECIAL (codes "Color") (codes "<init>") (codes "(Ljava/lang/String;I)V")
    ∷ Row (rows.OfField opcodes.PUTSTATIC (codes "Color") name (codes "LColor;")) ∷ []

abbrev entry : ℕ → List ℕ → List Line
entry place name = plain opcodes.DUP ∷ plain place ∷ colour_field name ∷ plain opcodes.AASTORE ∷ []

abbrev colours : ClassFile
colours =
    laid (record {
      flags = final + acc_super + acc_enum;
      name = codes "Color";
      superclass = Some (codes "java/lang/Enum");
      interfaces = [];
      fields = rows.field (public + static + final + acc_enum) (codes "RED") (codes "LColor;")
          ∷ rows.field (public + static + final + acc_enum) (codes "GREEN") (codes "LColor;")
          ∷ rows.field (private + static + final) (codes "$VALUES") (codes "[LColor;") ∷ [];
      methods = method (codes "<clinit>") (codes "()V") 4 0
          (colour (codes "RED") opcodes.ICONST_0 ++ colour (codes "GREEN") opcodes.ICONST_1
          ++ plain opcodes.ICONST_2 ∷ Row (rows.OfClass opcodes.ANEWARRAY (codes "Color"))
          ∷ entry opcodes.ICONST_0 (codes "RED") ++ entry opcodes.ICONST_1 (codes "GREEN")
          ++ Row (rows.OfField opcodes.PUTSTATIC (codes "Color") (codes "$VALUES") (codes "[LColor;")) ∷ plain opcodes.RETURN ∷ []) []
          ∷ record { flags = private; name = codes "<init>"; descriptor = codes "(Ljava/lang/String;I)V"; body = Some (record { stack = 3; locals = 3; handlers = []; code = plain opcodes.ALOAD_0 ∷ plain opcodes.ALOAD_1 ∷ plain opcodes.ILOAD_2 ∷ calls opcodes.INVOKESPECIAL (codes "java/lang/Enum") (codes "<init>") (codes "(Ljava/lang/String;I)V") ∷ plain opcodes.RETURN ∷ [] }) }
          ∷ method (codes "values") (codes "()[LColor;") 1 0
          (Row (rows.OfField opcodes.GETSTATIC (codes "Color") (codes "$VALUES") (codes "[LColor;"))
          ∷ calls opcodes.INVOKEVIRTUAL (codes "[LColor;") (codes "clone") (codes "()Ljava/lang/Object;")
          ∷ Row (rows.OfClass opcodes.CHECKCAST (codes "[LColor;")) ∷ plain opcodes.ARETURN ∷ []) []
          ∷ method (codes "valueOf") (codes "(Ljava/lang/String;)LColor;") 2 1
          (OfKind opcodes.LDC_W (codes "Color") operands.Pool 3 ∷ plain opcodes.ALOAD_0
          ∷ calls opcodes.INVOKESTATIC (codes "java/lang/Enum") (codes "valueOf") (codes "(Ljava/lang/Class;Ljava/lang/String;)Ljava/lang/Enum;")
          ∷ Row (rows.OfClass opcodes.CHECKCAST (codes "Color")) ∷ plain opcodes.ARETURN ∷ []) [] ∷ [];
    })

abbrev pub enumerates : List ClassFile
enumerates =
    runs 2 1
    (out ∷ loads (codes "GREEN") ∷ calls opcodes.INVOKESTATIC (codes "Color") (codes "valueOf") (codes "(Ljava/lang/String;)LColor;")
    ∷ calls opcodes.INVOKEVIRTUAL (codes "Color") (codes "ordinal") (codes "()I") ∷ prints (codes "(I)V")
    ∷ out ∷ calls opcodes.INVOKESTATIC (codes "Color") (codes "values") (codes "()[LColor;") ∷ plain opcodes.ARRAYLENGTH ∷ prints (codes "(I)V")
    ∷ plain opcodes.RETURN ∷ []) [] ++ colours ∷ []

-- the names of fields: of objects of a class by slot, and of static fields by slot; and those of classes by their numbers
abbrev name_in : Option (Numbered Field) → List ℕ
name_in None = []
name_in (Some field) = or_none (text_at field.pool field.member.name)

abbrev pub field_names : ℕ → List (List ℕ)
field_names class = map (λ number. name_in (slice_get (fields_of library) number)) (object_fields library class)

abbrev pub static_names : Linked → List ℕ → List (List ℕ)
static_names program slots = map (λ slot. name_in (static_at program slot)) slots

abbrev pub class_names : List ℕ → List (List ℕ)
class_names numbers = map (λ number. or_none (option_map name_of (slice_get library number))) numbers
