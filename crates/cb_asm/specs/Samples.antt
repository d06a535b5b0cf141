-- Programs with their texts, for the laws that compute both.
use Rattle.std.specs.Prelude.{ℕ, pos, negsuc, true, false, List, [], ◌∷◌, ◌++◌, Some, None, codes, map, option_map, Option}
use Rattle.std.specs.List.{flat_map}
use Rattle.cb_text.specs.declared.naming.MemberKind.TheVariants as kinds
use Rattle.cb_insn.specs.declared.opcode.TheConstants as opcodes
use Rattle.cb_classfile.specs.declared.body.Body.{Body}
use Rattle.cb_classfile.specs.declared.class.ClassFile.{ClassFile}
use Rattle.cb_classfile.specs.declared.frame_map.MapFrame.{MapFrame}
use Rattle.cb_classfile.specs.declared.map_type.MapType.TheVariants as types
use Rattle.cb_classfile.specs.declared.method.Method.{Method}
use Rattle.cb_asm_line.specs.declared.operand.Value.TheVariants as values
use Rattle.cb_asm_line.specs.Lines.{newline}
use Rattle.cb_asm_line.specs.declared.operand.Operand.{Operand}
use Rattle.cb_asm_line.specs.declared.program.CodeLine.{CodeLine}
use Rattle.cb_asm_line.specs.declared.frame.Frame.{Frame}
use Rattle.cb_asm_line.specs.declared.frame.FrameLine.{FrameLine}
use Rattle.cb_asm_line.specs.declared.program.Program.{Program}
use Rattle.cb_asm_line.specs.declared.program.CodeLine.TheVariants.{Here, Do}
use Rattle.cb_asm_line.specs.declared.frame.FrameType.TheVariants.{Top, Int, Long, Null, This, Object, New}
use Rattle.cb_asm_line.specs.declared.frame.FrameLine.TheVariants.{Full}
use Rattle.cb_asm_record.specs.Record.{class_of}

-- a text by its lines
abbrev pub text_of_lines : List (List ℕ) → List ℕ
text_of_lines lines = flat_map (λ line. line ++ newline ∷ []) lines

abbrev pub insn : ℕ → Operand → CodeLine
insn opcode operand = Do (record { opcode = opcode; wide = false; operand = operand })

-- a class that prints 42
abbrev pub first_lines : List (List ℕ)
first_lines =
    codes "class 52 public+super First java/lang/Object"
    ∷ codes "method public+static main ([Ljava/lang/String;)V"
    ∷ codes "limits 3 1"
    ∷ codes "getstatic java/lang/System out Ljava/io/PrintStream;"
    ∷ codes "bipush 6"
    ∷ codes "bipush 7"
    ∷ codes "imul"
    ∷ codes "invokevirtual java/io/PrintStream println (I)V"
    ∷ codes "return"
    ∷ codes "end"
    ∷ []

abbrev pub first_program : Program
first_program =
    record {
      major = 52;
      flags = 0x0021;
      name = codes "First";
      superclass = Some (codes "java/lang/Object");
      interfaces = [];
      fields = [];
      methods = record {
        flags = 0x0009;
        name = codes "main";
        descriptor = codes "([Ljava/lang/String;)V";
        code = Some (record {
          stack = 3;
          locals = 1;
          lines =
              insn opcodes.GETSTATIC (Operand.Member (record { kind = kinds.Field; class = codes "java/lang/System"; name = codes "out"; descriptor = codes "Ljava/io/PrintStream;" }))
              ∷ insn opcodes.BIPUSH (Operand.Number (pos 6))
              ∷ insn opcodes.BIPUSH (Operand.Number (pos 7))
              ∷ insn opcodes.IMUL Operand.Nothing
              ∷ insn opcodes.INVOKEVIRTUAL (Operand.Member (record { kind = kinds.Method; class = codes "java/io/PrintStream"; name = codes "println"; descriptor = codes "(I)V" }))
              ∷ insn opcodes.RETURN Operand.Nothing
              ∷ [];
          catches = [];
          frames = [];
        });
      } ∷ [];
    }

abbrev pub first_bytes : List ℕ
first_bytes =
    0xCA ∷ 0xFE ∷ 0xBA ∷ 0xBE ∷ 0x00 ∷ 0x00 ∷ 0x00 ∷ 0x34 ∷ 0x00 ∷ 0x14 ∷ 0x01 ∷ 0x00 ∷ 0x05 ∷ 0x46 ∷ 0x69 ∷ 0x72 ∷
    0x73 ∷ 0x74 ∷ 0x07 ∷ 0x00 ∷ 0x01 ∷ 0x01 ∷ 0x00 ∷ 0x10 ∷ 0x6A ∷ 0x61 ∷ 0x76 ∷ 0x61 ∷ 0x2F ∷ 0x6C ∷ 0x61 ∷ 0x6E ∷
    0x67 ∷ 0x2F ∷ 0x4F ∷ 0x62 ∷ 0x6A ∷ 0x65 ∷ 0x63 ∷ 0x74 ∷ 0x07 ∷ 0x00 ∷ 0x03 ∷ 0x01 ∷ 0x00 ∷ 0x04 ∷ 0x6D ∷ 0x61 ∷
    0x69 ∷ 0x6E ∷ 0x01 ∷ 0x00 ∷ 0x16 ∷ 0x28 ∷ 0x5B ∷ 0x4C ∷ 0x6A ∷ 0x61 ∷ 0x76 ∷ 0x61 ∷ 0x2F ∷ 0x6C ∷ 0x61 ∷ 0x6E ∷
    0x67 ∷ 0x2F ∷ 0x53 ∷ 0x74 ∷ 0x72 ∷ 0x69 ∷ 0x6E ∷ 0x67 ∷ 0x3B ∷ 0x29 ∷ 0x56 ∷ 0x01 ∷ 0x00 ∷ 0x04 ∷ 0x43 ∷ 0x6F ∷
    0x64 ∷ 0x65 ∷ 0x01 ∷ 0x00 ∷ 0x10 ∷ 0x6A ∷ 0x61 ∷ 0x76 ∷ 0x61 ∷ 0x2F ∷ 0x6C ∷ 0x61 ∷ 0x6E ∷ 0x67 ∷ 0x2F ∷ 0x53 ∷
    0x79 ∷ 0x73 ∷ 0x74 ∷ 0x65 ∷ 0x6D ∷ 0x07 ∷ 0x00 ∷ 0x08 ∷ 0x01 ∷ 0x00 ∷ 0x03 ∷ 0x6F ∷ 0x75 ∷ 0x74 ∷ 0x01 ∷ 0x00 ∷
    0x15 ∷ 0x4C ∷ 0x6A ∷ 0x61 ∷ 0x76 ∷ 0x61 ∷ 0x2F ∷ 0x69 ∷ 0x6F ∷ 0x2F ∷ 0x50 ∷ 0x72 ∷ 0x69 ∷ 0x6E ∷ 0x74 ∷ 0x53 ∷
    0x74 ∷ 0x72 ∷ 0x65 ∷ 0x61 ∷ 0x6D ∷ 0x3B ∷ 0x0C ∷ 0x00 ∷ 0x0A ∷ 0x00 ∷ 0x0B ∷ 0x09 ∷ 0x00 ∷ 0x09 ∷ 0x00 ∷ 0x0C ∷
    0x01 ∷ 0x00 ∷ 0x13 ∷ 0x6A ∷ 0x61 ∷ 0x76 ∷ 0x61 ∷ 0x2F ∷ 0x69 ∷ 0x6F ∷ 0x2F ∷ 0x50 ∷ 0x72 ∷ 0x69 ∷ 0x6E ∷ 0x74 ∷
    0x53 ∷ 0x74 ∷ 0x72 ∷ 0x65 ∷ 0x61 ∷ 0x6D ∷ 0x07 ∷ 0x00 ∷ 0x0E ∷ 0x01 ∷ 0x00 ∷ 0x07 ∷ 0x70 ∷ 0x72 ∷ 0x69 ∷ 0x6E ∷
    0x74 ∷ 0x6C ∷ 0x6E ∷ 0x01 ∷ 0x00 ∷ 0x04 ∷ 0x28 ∷ 0x49 ∷ 0x29 ∷ 0x56 ∷ 0x0C ∷ 0x00 ∷ 0x10 ∷ 0x00 ∷ 0x11 ∷ 0x0A ∷
    0x00 ∷ 0x0F ∷ 0x00 ∷ 0x12 ∷ 0x00 ∷ 0x21 ∷ 0x00 ∷ 0x02 ∷ 0x00 ∷ 0x04 ∷ 0x00 ∷ 0x00 ∷ 0x00 ∷ 0x00 ∷ 0x00 ∷ 0x01 ∷
    0x00 ∷ 0x09 ∷ 0x00 ∷ 0x05 ∷ 0x00 ∷ 0x06 ∷ 0x00 ∷ 0x01 ∷ 0x00 ∷ 0x07 ∷ 0x00 ∷ 0x00 ∷ 0x00 ∷ 0x18 ∷ 0x00 ∷ 0x03 ∷
    0x00 ∷ 0x01 ∷ 0x00 ∷ 0x00 ∷ 0x00 ∷ 0x0C ∷ 0xB2 ∷ 0x00 ∷ 0x0D ∷ 0x10 ∷ 0x06 ∷ 0x10 ∷ 0x07 ∷ 0x68 ∷ 0xB6 ∷ 0x00 ∷
    0x13 ∷ 0xB1 ∷ 0x00 ∷ 0x00 ∷ 0x00 ∷ 0x00 ∷ 0x00 ∷ 0x00 ∷ []

-- a class with each form of operand, and with each kind of line
abbrev pub forms_lines : List (List ℕ)
forms_lines =
    codes "class 51 public+bit1+abstract p/Forms java/lang/Object"
    ∷ codes "implements java/lang/Runnable"
    ∷ codes "field static+final I I int -5"
    ∷ codes "field static+final J J long 9223372036854775807"
    ∷ codes "field static+final T Ljava/lang/String; text \"a \\\"b\\\" \\\\ \\u000A\""
    ∷ codes "field 0 \\u002D [J"
    ∷ codes "field 0 -\\u003A\\u002C\\u0020 I"
    ∷ codes "method public+abstract run ()V"
    ∷ codes "end"
    ∷ codes "method static forms (II)V"
    ∷ codes "limits 9 400"
    ∷ codes "L0:"
    ∷ codes "wide iload 300"
    ∷ codes "istore 4"
    ∷ codes "bipush -1"
    ∷ codes "sipush 1000"
    ∷ codes "ldc int 70000"
    ∷ codes "ldc text \"\""
    ∷ codes "ldc_w class [I"
    ∷ codes "ldc2_w long -1"
    ∷ codes "wide iinc 300 -400"
    ∷ codes "iinc 0 5"
    ∷ codes "putfield p/Forms \\u002D [J"
    ∷ codes "invokeinterface interface p/Forms put (I[[JJLany;D)Z"
    ∷ codes "invokespecial \\u0061ny \\u0061ny ()V"
    ∷ codes "newarray int"
    ∷ codes "multianewarray [[I 2"
    ∷ codes "new p/Forms"
    ∷ codes "tableswitch -1 L0 L0 L1"
    ∷ codes "lookupswitch L1 -7 L0 5 L1"
    ∷ codes "goto_w L0"
    ∷ codes "ifeq L1"
    ∷ codes "L1:"
    ∷ codes "return"
    ∷ codes "L2:"
    ∷ codes "catch L0 L2 L1 any"
    ∷ codes "catch L0 L1 L0 \\u0061ny"
    ∷ codes "frame L0 locals int,int stack -"
    ∷ codes "frame L1 locals - stack top,int,long,null,this,object:[I,new:L0"
    ∷ codes "end"
    ∷ []

abbrev pub wide : ℕ → Operand → CodeLine
wide opcode operand = Do (record { opcode = opcode; wide = true; operand = operand })

abbrev pub label_0 : List ℕ
label_0 = codes "0"

abbrev pub label_1 : List ℕ
label_1 = codes "1"

abbrev pub label_2 : List ℕ
label_2 = codes "2"

abbrev pub forms_code : List CodeLine
forms_code =
    Here label_0
    ∷ wide opcodes.ILOAD (Operand.Local 300)
    ∷ insn opcodes.ISTORE (Operand.Local 4)
    ∷ insn opcodes.BIPUSH (Operand.Number (negsuc 0))
    ∷ insn opcodes.SIPUSH (Operand.Number (pos 1000))
    ∷ insn opcodes.LDC (Operand.Load (values.Int (pos 70000)))
    ∷ insn opcodes.LDC (Operand.Load (values.Text []))
    ∷ insn opcodes.LDC_W (Operand.Load (values.Class (codes "[I")))
    ∷ insn opcodes.LDC2_W (Operand.Load (values.Long (negsuc 0)))
    ∷ wide opcodes.IINC (Operand.Increase 300 (negsuc 399))
    ∷ insn opcodes.IINC (Operand.Increase 0 (pos 5))
    ∷ insn opcodes.PUTFIELD (Operand.Member (record { kind = kinds.Field; class = codes "p/Forms"; name = codes "-"; descriptor = codes "[J" }))
    ∷ insn opcodes.INVOKEINTERFACE (Operand.Member (record { kind = kinds.InterfaceMethod; class = codes "p/Forms"; name = codes "put"; descriptor = codes "(I[[JJLany;D)Z" }))
    ∷ insn opcodes.INVOKESPECIAL (Operand.Member (record { kind = kinds.Method; class = codes "any"; name = codes "any"; descriptor = codes "()V" }))
    ∷ insn opcodes.NEWARRAY (Operand.Array 10)
    ∷ insn opcodes.MULTIANEWARRAY (Operand.Dimensions (codes "[[I") 2)
    ∷ insn opcodes.NEW (Operand.Class (codes "p/Forms"))
    ∷ insn opcodes.TABLESWITCH (Operand.Table (negsuc 0) label_0 (label_0 ∷ label_1 ∷ []))
    ∷ insn opcodes.LOOKUPSWITCH (Operand.Lookup label_1 ((negsuc 6, label_0) ∷ (pos 5, label_1) ∷ []))
    ∷ insn opcodes.GOTO_W (Operand.Branch label_0)
    ∷ insn opcodes.IFEQ (Operand.Branch label_1)
    ∷ Here label_1
    ∷ insn opcodes.RETURN Operand.Nothing
    ∷ Here label_2
    ∷ []

abbrev pub forms_frames : List FrameLine
forms_frames =
    Full (record { place = label_0; locals = Int ∷ Int ∷ []; stack = [] })
    ∷ Full (record { place = label_1; locals = []; stack = Top ∷ Int ∷ Long ∷ Null ∷ This ∷ Object (codes "[I") ∷ New label_0 ∷ [] })
    ∷ []

abbrev pub forms_program : Program
forms_program =
    record {
      major = 51;
      flags = 0x0403;
      name = codes "p/Forms";
      superclass = Some (codes "java/lang/Object");
      interfaces = codes "java/lang/Runnable" ∷ [];
      fields =
          record { flags = 0x0018; name = codes "I"; descriptor = codes "I"; value = Some (values.Int (negsuc 4)) }
          ∷ record { flags = 0x0018; name = codes "J"; descriptor = codes "J"; value = Some (values.Long (pos 9223372036854775807)) }
          ∷ record { flags = 0x0018; name = codes "T"; descriptor = codes "Ljava/lang/String;"; value = Some (values.Text (codes "a \"b\" \\ " ++ newline ∷ [])) }
          ∷ record { flags = 0; name = codes "-"; descriptor = codes "[J"; value = None }
          ∷ record { flags = 0; name = codes "-:, "; descriptor = codes "I"; value = None }
          ∷ [];
      methods =
          record { flags = 0x0401; name = codes "run"; descriptor = codes "()V"; code = None }
          ∷ record {
            flags = 0x0008;
            name = codes "forms";
            descriptor = codes "(II)V";
            code = Some (record {
              stack = 9;
              locals = 400;
              lines = forms_code;
              catches =
                  record { start = label_0; end = label_2; handler = label_1; class = None }
                  ∷ record { start = label_0; end = label_1; handler = label_0; class = Some (codes "any") }
                  ∷ [];
              frames = forms_frames;
            });
          }
          ∷ [];
    }

-- its file, by another assembler
abbrev pub forms_bytes : List ℕ
forms_bytes =
    0xCA ∷ 0xFE ∷ 0xBA ∷ 0xBE ∷ 0x00 ∷ 0x00 ∷ 0x00 ∷ 0x33 ∷ 0x00 ∷ 0x2D ∷ 0x01 ∷ 0x00 ∷ 0x07 ∷ 0x70 ∷ 0x2F ∷ 0x46 ∷
    0x6F ∷ 0x72 ∷ 0x6D ∷ 0x73 ∷ 0x07 ∷ 0x00 ∷ 0x01 ∷ 0x01 ∷ 0x00 ∷ 0x10 ∷ 0x6A ∷ 0x61 ∷ 0x76 ∷ 0x61 ∷ 0x2F ∷ 0x6C ∷
    0x61 ∷ 0x6E ∷ 0x67 ∷ 0x2F ∷ 0x4F ∷ 0x62 ∷ 0x6A ∷ 0x65 ∷ 0x63 ∷ 0x74 ∷ 0x07 ∷ 0x00 ∷ 0x03 ∷ 0x01 ∷ 0x00 ∷ 0x12 ∷
    0x6A ∷ 0x61 ∷ 0x76 ∷ 0x61 ∷ 0x2F ∷ 0x6C ∷ 0x61 ∷ 0x6E ∷ 0x67 ∷ 0x2F ∷ 0x52 ∷ 0x75 ∷ 0x6E ∷ 0x6E ∷ 0x61 ∷ 0x62 ∷
    0x6C ∷ 0x65 ∷ 0x07 ∷ 0x00 ∷ 0x05 ∷ 0x01 ∷ 0x00 ∷ 0x01 ∷ 0x49 ∷ 0x01 ∷ 0x00 ∷ 0x0D ∷ 0x43 ∷ 0x6F ∷ 0x6E ∷ 0x73 ∷
    0x74 ∷ 0x61 ∷ 0x6E ∷ 0x74 ∷ 0x56 ∷ 0x61 ∷ 0x6C ∷ 0x75 ∷ 0x65 ∷ 0x03 ∷ 0xFF ∷ 0xFF ∷ 0xFF ∷ 0xFB ∷ 0x01 ∷ 0x00 ∷
    0x01 ∷ 0x4A ∷ 0x05 ∷ 0x7F ∷ 0xFF ∷ 0xFF ∷ 0xFF ∷ 0xFF ∷ 0xFF ∷ 0xFF ∷ 0xFF ∷ 0x01 ∷ 0x00 ∷ 0x01 ∷ 0x54 ∷ 0x01 ∷
    0x00 ∷ 0x12 ∷ 0x4C ∷ 0x6A ∷ 0x61 ∷ 0x76 ∷ 0x61 ∷ 0x2F ∷ 0x6C ∷ 0x61 ∷ 0x6E ∷ 0x67 ∷ 0x2F ∷ 0x53 ∷ 0x74 ∷ 0x72 ∷
    0x69 ∷ 0x6E ∷ 0x67 ∷ 0x3B ∷ 0x01 ∷ 0x00 ∷ 0x09 ∷ 0x61 ∷ 0x20 ∷ 0x22 ∷ 0x62 ∷ 0x22 ∷ 0x20 ∷ 0x5C ∷ 0x20 ∷ 0x0A ∷
    0x08 ∷ 0x00 ∷ 0x0F ∷ 0x01 ∷ 0x00 ∷ 0x01 ∷ 0x2D ∷ 0x01 ∷ 0x00 ∷ 0x02 ∷ 0x5B ∷ 0x4A ∷ 0x01 ∷ 0x00 ∷ 0x04 ∷ 0x2D ∷
    0x3A ∷ 0x2C ∷ 0x20 ∷ 0x01 ∷ 0x00 ∷ 0x03 ∷ 0x72 ∷ 0x75 ∷ 0x6E ∷ 0x01 ∷ 0x00 ∷ 0x03 ∷ 0x28 ∷ 0x29 ∷ 0x56 ∷ 0x01 ∷
    0x00 ∷ 0x05 ∷ 0x66 ∷ 0x6F ∷ 0x72 ∷ 0x6D ∷ 0x73 ∷ 0x01 ∷ 0x00 ∷ 0x05 ∷ 0x28 ∷ 0x49 ∷ 0x49 ∷ 0x29 ∷ 0x56 ∷ 0x01 ∷
    0x00 ∷ 0x04 ∷ 0x43 ∷ 0x6F ∷ 0x64 ∷ 0x65 ∷ 0x03 ∷ 0x00 ∷ 0x01 ∷ 0x11 ∷ 0x70 ∷ 0x01 ∷ 0x00 ∷ 0x00 ∷ 0x08 ∷ 0x00 ∷
    0x1A ∷ 0x01 ∷ 0x00 ∷ 0x02 ∷ 0x5B ∷ 0x49 ∷ 0x07 ∷ 0x00 ∷ 0x1C ∷ 0x05 ∷ 0xFF ∷ 0xFF ∷ 0xFF ∷ 0xFF ∷ 0xFF ∷ 0xFF ∷
    0xFF ∷ 0xFF ∷ 0x0C ∷ 0x00 ∷ 0x11 ∷ 0x00 ∷ 0x12 ∷ 0x09 ∷ 0x00 ∷ 0x02 ∷ 0x00 ∷ 0x20 ∷ 0x01 ∷ 0x00 ∷ 0x03 ∷ 0x70 ∷
    0x75 ∷ 0x74 ∷ 0x01 ∷ 0x00 ∷ 0x0E ∷ 0x28 ∷ 0x49 ∷ 0x5B ∷ 0x5B ∷ 0x4A ∷ 0x4A ∷ 0x4C ∷ 0x61 ∷ 0x6E ∷ 0x79 ∷ 0x3B ∷
    0x44 ∷ 0x29 ∷ 0x5A ∷ 0x0C ∷ 0x00 ∷ 0x22 ∷ 0x00 ∷ 0x23 ∷ 0x0B ∷ 0x00 ∷ 0x02 ∷ 0x00 ∷ 0x24 ∷ 0x01 ∷ 0x00 ∷ 0x03 ∷
    0x61 ∷ 0x6E ∷ 0x79 ∷ 0x07 ∷ 0x00 ∷ 0x26 ∷ 0x0C ∷ 0x00 ∷ 0x26 ∷ 0x00 ∷ 0x15 ∷ 0x0A ∷ 0x00 ∷ 0x27 ∷ 0x00 ∷ 0x28 ∷
    0x01 ∷ 0x00 ∷ 0x03 ∷ 0x5B ∷ 0x5B ∷ 0x49 ∷ 0x07 ∷ 0x00 ∷ 0x2A ∷ 0x01 ∷ 0x00 ∷ 0x0D ∷ 0x53 ∷ 0x74 ∷ 0x61 ∷ 0x63 ∷
    0x6B ∷ 0x4D ∷ 0x61 ∷ 0x70 ∷ 0x54 ∷ 0x61 ∷ 0x62 ∷ 0x6C ∷ 0x65 ∷ 0x04 ∷ 0x03 ∷ 0x00 ∷ 0x02 ∷ 0x00 ∷ 0x04 ∷ 0x00 ∷
    0x01 ∷ 0x00 ∷ 0x06 ∷ 0x00 ∷ 0x05 ∷ 0x00 ∷ 0x18 ∷ 0x00 ∷ 0x07 ∷ 0x00 ∷ 0x07 ∷ 0x00 ∷ 0x01 ∷ 0x00 ∷ 0x08 ∷ 0x00 ∷
    0x00 ∷ 0x00 ∷ 0x02 ∷ 0x00 ∷ 0x09 ∷ 0x00 ∷ 0x18 ∷ 0x00 ∷ 0x0A ∷ 0x00 ∷ 0x0A ∷ 0x00 ∷ 0x01 ∷ 0x00 ∷ 0x08 ∷ 0x00 ∷
    0x00 ∷ 0x00 ∷ 0x02 ∷ 0x00 ∷ 0x0B ∷ 0x00 ∷ 0x18 ∷ 0x00 ∷ 0x0D ∷ 0x00 ∷ 0x0E ∷ 0x00 ∷ 0x01 ∷ 0x00 ∷ 0x08 ∷ 0x00 ∷
    0x00 ∷ 0x00 ∷ 0x02 ∷ 0x00 ∷ 0x10 ∷ 0x00 ∷ 0x00 ∷ 0x00 ∷ 0x11 ∷ 0x00 ∷ 0x12 ∷ 0x00 ∷ 0x00 ∷ 0x00 ∷ 0x00 ∷ 0x00 ∷
    0x13 ∷ 0x00 ∷ 0x07 ∷ 0x00 ∷ 0x00 ∷ 0x00 ∷ 0x02 ∷ 0x04 ∷ 0x01 ∷ 0x00 ∷ 0x14 ∷ 0x00 ∷ 0x15 ∷ 0x00 ∷ 0x00 ∷ 0x00 ∷
    0x08 ∷ 0x00 ∷ 0x16 ∷ 0x00 ∷ 0x17 ∷ 0x00 ∷ 0x01 ∷ 0x00 ∷ 0x18 ∷ 0x00 ∷ 0x00 ∷ 0x00 ∷ 0xAC ∷ 0x00 ∷ 0x09 ∷ 0x01 ∷
    0x90 ∷ 0x00 ∷ 0x00 ∷ 0x00 ∷ 0x6D ∷ 0xC4 ∷ 0x15 ∷ 0x01 ∷ 0x2C ∷ 0x36 ∷ 0x04 ∷ 0x10 ∷ 0xFF ∷ 0x11 ∷ 0x03 ∷ 0xE8 ∷
    0x12 ∷ 0x19 ∷ 0x12 ∷ 0x1B ∷ 0x13 ∷ 0x00 ∷ 0x1D ∷ 0x14 ∷ 0x00 ∷ 0x1E ∷ 0xC4 ∷ 0x84 ∷ 0x01 ∷ 0x2C ∷ 0xFE ∷ 0x70 ∷
    0x84 ∷ 0x00 ∷ 0x05 ∷ 0xB5 ∷ 0x00 ∷ 0x21 ∷ 0xB9 ∷ 0x00 ∷ 0x25 ∷ 0x08 ∷ 0x00 ∷ 0xB7 ∷ 0x00 ∷ 0x29 ∷ 0xBC ∷ 0x0A ∷
    0xC5 ∷ 0x00 ∷ 0x2B ∷ 0x02 ∷ 0xBB ∷ 0x00 ∷ 0x02 ∷ 0xAA ∷ 0x00 ∷ 0xFF ∷ 0xFF ∷ 0xFF ∷ 0xCE ∷ 0xFF ∷ 0xFF ∷ 0xFF ∷
    0xFF ∷ 0x00 ∷ 0x00 ∷ 0x00 ∷ 0x00 ∷ 0xFF ∷ 0xFF ∷ 0xFF ∷ 0xCE ∷ 0x00 ∷ 0x00 ∷ 0x00 ∷ 0x3A ∷ 0xAB ∷ 0x00 ∷ 0x00 ∷
    0x00 ∷ 0x00 ∷ 0x00 ∷ 0x00 ∷ 0x24 ∷ 0x00 ∷ 0x00 ∷ 0x00 ∷ 0x02 ∷ 0xFF ∷ 0xFF ∷ 0xFF ∷ 0xF9 ∷ 0xFF ∷ 0xFF ∷ 0xFF ∷
    0xB8 ∷ 0x00 ∷ 0x00 ∷ 0x00 ∷ 0x05 ∷ 0x00 ∷ 0x00 ∷ 0x00 ∷ 0x24 ∷ 0xC8 ∷ 0xFF ∷ 0xFF ∷ 0xFF ∷ 0x9C ∷ 0x99 ∷ 0x00 ∷
    0x03 ∷ 0xB1 ∷ 0x00 ∷ 0x02 ∷ 0x00 ∷ 0x00 ∷ 0x00 ∷ 0x6D ∷ 0x00 ∷ 0x6C ∷ 0x00 ∷ 0x00 ∷ 0x00 ∷ 0x00 ∷ 0x00 ∷ 0x6C ∷
    0x00 ∷ 0x00 ∷ 0x00 ∷ 0x27 ∷ 0x00 ∷ 0x01 ∷ 0x00 ∷ 0x2C ∷ 0x00 ∷ 0x00 ∷ 0x00 ∷ 0x1D ∷ 0x00 ∷ 0x02 ∷ 0xFF ∷ 0x00 ∷
    0x00 ∷ 0x00 ∷ 0x02 ∷ 0x01 ∷ 0x01 ∷ 0x00 ∷ 0x00 ∷ 0xFF ∷ 0x00 ∷ 0x6B ∷ 0x00 ∷ 0x00 ∷ 0x00 ∷ 0x07 ∷ 0x00 ∷ 0x01 ∷
    0x04 ∷ 0x05 ∷ 0x06 ∷ 0x07 ∷ 0x00 ∷ 0x1D ∷ 0x08 ∷ 0x00 ∷ 0x00 ∷ 0x00 ∷ 0x00 ∷ []

-- frames of each kind behind one int, with what they are in full: a long more; the same; an int on the stack; one local
-- less; two less, which there aren't; the same as that; and one in full
abbrev pub short_frames : List MapFrame
short_frames =
    record { kind = 252; delta = 5; locals = types.Long ∷ []; stack = [] }
    ∷ record { kind = 3; delta = 3; locals = []; stack = [] }
    ∷ record { kind = 66; delta = 2; locals = []; stack = types.Integer ∷ [] }
    ∷ record { kind = 250; delta = 9; locals = []; stack = [] }
    ∷ record { kind = 249; delta = 0; locals = []; stack = [] }
    ∷ record { kind = 251; delta = 300; locals = []; stack = [] }
    ∷ record { kind = 255; delta = 0; locals = types.Top ∷ []; stack = types.Uninitialized 7 ∷ [] }
    ∷ []

abbrev pub full_frames : List (Option (Frame ℕ))
full_frames =
    Some (record { place = 5; locals = Int ∷ Long ∷ []; stack = [] })
    ∷ Some (record { place = 9; locals = Int ∷ Long ∷ []; stack = [] })
    ∷ Some (record { place = 12; locals = Int ∷ Long ∷ []; stack = Int ∷ [] })
    ∷ Some (record { place = 22; locals = Int ∷ []; stack = [] })
    ∷ None
    ∷ None
    ∷ Some (record { place = 325; locals = Top ∷ []; stack = New 7 ∷ [] })
    ∷ []

-- the first class with two frames: at its second instruction, and where none begins
abbrev pub two_frames : List MapFrame
two_frames =
    record { kind = 3; delta = 3; locals = []; stack = [] } ∷ record { kind = 0; delta = 0; locals = []; stack = [] } ∷ []

abbrev pub framed : Body → Body
framed body = record body { frames = two_frames }

abbrev pub with_frames : Method → Method
with_frames method = record method { body = option_map framed method.body }

abbrev pub framed_class : ClassFile
framed_class = let class = class_of first_program in record class { methods = map with_frames class.methods }

abbrev pub framed_lines : List (List ℕ)
framed_lines =
    codes "class 52 public+super First java/lang/Object"
    ∷ codes "method public+static main ([Ljava/lang/String;)V"
    ∷ codes "limits 3 1"
    ∷ codes "getstatic java/lang/System out Ljava/io/PrintStream;"
    ∷ codes "L0:"
    ∷ codes "bipush 6"
    ∷ codes "bipush 7"
    ∷ codes "imul"
    ∷ codes "invokevirtual java/io/PrintStream println (I)V"
    ∷ codes "return"
    ∷ codes "frame L0 locals object:[Ljava/lang/String; stack -"
    ∷ codes "frame bad"
    ∷ codes "end"
    ∷ []
