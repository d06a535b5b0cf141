-- The lines of a program are those of its statements.
use Rattle.std.proofs.Common.{◌≡◌, ◌∙◌, ap, refl, List, [], ◌∷◌, ◌++◌, map, Option, Some, None, IfSome}
use Rattle.std.specs.List.{AllByRecursion, flat_map}
use Rattle.std.proofs.lemmas.List.{map-append}
use Rattle.cb_asm_line.specs.Lines.{Line}
use Rattle.cb_asm_line.specs.Spelling.{catch_line, code_line, code_lines, end_line, field_line, frame_line, implements_line, class_line, method_line, method_lines, program_lines, limits_line}
use Rattle.cb_asm_line.specs.Statements.{AreWhole, IsWhole, code_statements, frame_statements, method_statements, statement_words, statements_of}
use Rattle.cb_asm_line.specs.declared.frame.FrameLine.{FrameLine}
use Rattle.cb_asm_line.specs.declared.frame.FrameLine.TheVariants.{Full, Bad}
use Rattle.cb_asm_line.specs.declared.program.CodeText.{CodeText}
use Rattle.cb_asm_line.specs.declared.program.MethodText.{MethodText}
use Rattle.cb_asm_line.specs.declared.program.Program.{Program}
use Rattle.cb_asm_line.specs.declared.statement.Statement.{Statement}
use Rattle.cb_asm_line.specs.declared.statement.Statement.TheVariants as statements

-- statements of one kind
of_kind : {X : Type 0} (kind : X → Statement) (items : List X) → map statement_words (map kind items) ≡ map (λ item. statement_words (kind item)) items
of_kind kind [] = refl
of_kind kind (item ∷ items) = ap (λ rest. statement_words (kind item) ∷ rest) (of_kind kind items)

frames_said : (frames : List FrameLine) → AllByRecursion IsWhole frames → map statement_words (flat_map frame_statements frames) ≡ map frame_line frames
frames_said [] whole = refl
frames_said (Full frame ∷ frames) whole = ap (λ rest. frame_line (Full frame) ∷ rest) (frames_said frames whole.1)
frames_said (Bad ∷ frames) whole = absurd whole.0

three_kinds : (one two three : List Statement) (first second third : List Line) → map statement_words one ≡ first → map statement_words two ≡ second → map statement_words three ≡ third
    → map statement_words ((one ++ two) ++ three) ≡ (first ++ second) ++ third
three_kinds one two three first second third a b c =
    map-append statement_words (one ++ two) three
    ∙ ap (λ front. front ++ map statement_words three) (map-append statement_words one two ∙ ap (λ each. each ++ map statement_words two) a ∙ ap (λ each. first ++ each) b)
    ∙ ap (λ each. (first ++ second) ++ each) c

code_said : (code : Option CodeText) → IfSome code AreWhole → map statement_words (code_statements code) ≡ code_lines code
code_said None whole = refl
code_said (Some code) whole =
    ap (λ rest. limits_line code ∷ rest)
    (three_kinds (map statements.Code code.lines) (map statements.Catch code.catches) (flat_map frame_statements code.frames) (map code_line code.lines) (map catch_line code.catches) (map frame_line code.frames)
    (of_kind statements.Code code.lines) (of_kind statements.Catch code.catches) (frames_said code.frames whole))

method_said : (method : MethodText) → IfSome method.code AreWhole → map statement_words (method_statements method) ≡ method_lines method
method_said method whole =
    ap (λ rest. method_line method ∷ rest)
    (map-append statement_words (code_statements method.code) (statements.End ∷ []) ∙ ap (λ front. front ++ end_line ∷ []) (code_said method.code whole))

methods_said : (methods : List MethodText) → AllByRecursion (λ method. IfSome method.code AreWhole) methods → map statement_words (flat_map method_statements methods) ≡ flat_map method_lines methods
methods_said [] whole = refl
methods_said (method ∷ methods) whole =
    map-append statement_words (method_statements method) (flat_map method_statements methods)
    ∙ ap (λ front. front ++ map statement_words (flat_map method_statements methods)) (method_said method whole.0)
    ∙ ap (λ back. method_lines method ++ back) (methods_said methods whole.1)

pub program_said : (program : Program) → AllByRecursion (λ method. IfSome method.code AreWhole) program.methods → map statement_words (statements_of program) ≡ program_lines program
program_said program whole =
    ap (λ rest. class_line program ∷ rest)
    (three_kinds (map statements.Implements program.interfaces) (map statements.Field program.fields) (flat_map method_statements program.methods) (map implements_line program.interfaces) (map field_line program.fields) (flat_map method_lines program.methods)
    (of_kind statements.Implements program.interfaces) (of_kind statements.Field program.fields) (methods_said program.methods whole))
