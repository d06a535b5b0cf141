-- The lines of a program, in their order.
use Rattle.std.specs.Prelude.{ℕ, List, [], ◌∷◌, ◌++◌, map, Option, Some, None, codes}
use Rattle.std.specs.List.{flat_map, join_with_byte}
use Rattle.cb_asm_line.specs.Flags.{class_flags, field_flags, method_flags, flags_word}
use Rattle.cb_asm_line.specs.Lines.{Word, Line, lines_text}
use Rattle.cb_asm_line.specs.Numbers.{decimal}
use Rattle.cb_asm_line.specs.Operands.{label_word, value_words, instruction_words}
use Rattle.cb_asm_line.specs.declared.operand.Value.{Value}
use Rattle.cb_asm_line.specs.declared.program.CodeLine.{CodeLine}
use Rattle.cb_asm_line.specs.declared.program.CatchLine.{CatchLine}
use Rattle.cb_asm_line.specs.declared.frame.FrameType.{FrameType}
use Rattle.cb_asm_line.specs.declared.frame.FrameLine.{FrameLine}
use Rattle.cb_asm_line.specs.declared.program.CodeText.{CodeText}
use Rattle.cb_asm_line.specs.declared.program.FieldText.{FieldText}
use Rattle.cb_asm_line.specs.declared.program.MethodText.{MethodText}
use Rattle.cb_asm_line.specs.declared.program.Program.{Program}
use Rattle.cb_asm_line.specs.declared.program.CodeLine.TheVariants.{Here, Do}
use Rattle.cb_asm_line.specs.declared.frame.FrameType.TheVariants.{Top, Int, Long, Null, This, Object, New}
use Rattle.cb_asm_line.specs.declared.frame.FrameLine.TheVariants.{Full, Bad}
use Rattle.cb_asm_line.specs.Label.{Label}
use Rattle.cb_asm_line.specs.Quoting.{colon, comma, no_name, any_name, name_word}

-- a name, or what stands in its place
abbrev pub name_or : Word → Option (List ℕ) → Word
name_or word None = word
name_or word (Some name) = name_word name

-- a label stands at a place with a colon
abbrev pub code_line : CodeLine → Line
code_line (Here label) = (label_word label ++ colon ∷ []) ∷ []
code_line (Do instruction) = instruction_words instruction

abbrev pub catch_line : CatchLine → Line
catch_line entry =
    codes "catch" ∷ label_word entry.start ∷ label_word entry.end ∷ label_word entry.handler ∷ name_or any_name entry.class ∷ []

abbrev pub type_word : FrameType Label → Word
type_word Top = codes "top"
type_word Int = codes "int"
type_word Long = codes "long"
type_word Null = codes "null"
type_word This = codes "this"
type_word (Object name) = codes "object" ++ colon ∷ name_word name
type_word (New label) = codes "new" ++ colon ∷ label_word label

abbrev pub types_word : List (FrameType Label) → Word
types_word [] = no_name
types_word (type ∷ types) = join_with_byte comma (map type_word (type ∷ types))

abbrev pub frame_line : FrameLine → Line
frame_line (Full frame) =
    codes "frame" ∷ label_word frame.place ∷ codes "locals" ∷ types_word frame.locals ∷ codes "stack" ∷ types_word frame.stack ∷ []
frame_line Bad = codes "frame" ∷ codes "bad" ∷ []

abbrev pub limits_line : CodeText → Line
limits_line code = codes "limits" ∷ decimal code.stack ∷ decimal code.locals ∷ []

abbrev pub code_lines : Option CodeText → List Line
code_lines None = []
code_lines (Some code) =
    limits_line code ∷ map code_line code.lines ++ map catch_line code.catches ++ map frame_line code.frames

abbrev pub method_line : MethodText → Line
method_line method =
    codes "method" ∷ flags_word method_flags method.flags ∷ name_word method.name ∷ name_word method.descriptor ∷ []

abbrev pub end_line : Line
end_line = codes "end" ∷ []

abbrev pub method_lines : MethodText → List Line
method_lines method = method_line method ∷ code_lines method.code ++ end_line ∷ []

abbrev pub value_of : Option Value → List Word
value_of None = []
value_of (Some value) = value_words value

abbrev pub field_line : FieldText → Line
field_line field =
    codes "field" ∷ flags_word field_flags field.flags ∷ name_word field.name ∷ name_word field.descriptor ∷ value_of field.value

abbrev pub implements_line : List ℕ → Line
implements_line name = codes "implements" ∷ name_word name ∷ []

abbrev pub class_line : Program → Line
class_line program =
    codes "class" ∷ decimal program.major ∷ flags_word class_flags program.flags ∷ name_word program.name ∷ name_or no_name program.superclass ∷ []

-- the lines before the methods, and all lines
abbrev pub head_lines : Program → List Line
head_lines program = class_line program ∷ map implements_line program.interfaces ++ map field_line program.fields

abbrev pub program_lines : Program → List Line
program_lines program = head_lines program ++ flat_map method_lines program.methods

abbrev pub program_text : Program → List ℕ
program_text program = lines_text (program_lines program)
