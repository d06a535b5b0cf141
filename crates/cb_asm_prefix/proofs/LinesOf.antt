-- The lines of a program are of the format where those of its parts are.
use Rattle.std.proofs.Common.{◌<◌, ◌^◌, ℕ, List, [], ◌∷◌, ◌++◌, map, Option, Some, None, IfSome}
use Rattle.std.specs.List.{AllByRecursion, flat_map}
use Rattle.cb_text.specs.Text.{AreUnits}
use Rattle.cb_asm_line.specs.declared.frame.FrameLine.{FrameLine}
use Rattle.cb_asm_line.specs.declared.program.CatchLine.{CatchLine}
use Rattle.cb_asm_line.specs.declared.program.CodeLine.{CodeLine}
use Rattle.cb_asm_line.specs.declared.program.CodeText.{CodeText}
use Rattle.cb_asm_line.specs.declared.program.FieldText.{FieldText}
use Rattle.cb_asm_line.specs.declared.program.MethodText.{MethodText}
use Rattle.cb_asm_line.specs.declared.program.Program.{Program}
use Rattle.cb_asm_line.specs.declared.statement.Statement.TheVariants as statements
use Rattle.cb_asm_line.specs.Statements.{AreWhole, HasLines, IsCatch, IsCodeLine, IsStatement, IsWhole, code_statements, frame_statements, method_statements}
use Rattle.cb_asm_prefix.proofs.CutBodies.{text}
use Rattle.cb_asm_prefix.proofs.Lists.{all_back, all_both, all_flat, all_front, all_mapped, all_of_flat, all_of_map, all_two}
use Rattle.cb_asm_prefix.proofs.Trees.{tree, with_code}
use Rattle.cb_classfile.proofs.Laws.{all_each}

-- the lines of code, of a method and of a program, part by part
pub record AreCodeLines (code : CodeText) : Type 0 where
  pub stack : code.stack < 2 ^ 16
  pub locals : code.locals < 2 ^ 16
  pub lines : AllByRecursion IsCodeLine code.lines
  pub catches : AllByRecursion IsCatch code.catches
  pub frames : AllByRecursion (λ frame. AllByRecursion IsStatement (frame_statements frame)) code.frames
  pub whole : AllByRecursion IsWhole code.frames

pub record AreMethodLines (method : MethodText) : Type 0 where
  pub head : (method.flags < 2 ^ 16) × AreUnits method.name × AreUnits method.descriptor
  pub code : IfSome method.code AreCodeLines

pub record AreProgramLines (program : Program) : Type 0 where
  pub own : (program.major < 2 ^ 16) × (program.flags < 2 ^ 16) × AreUnits program.name × IfSome program.superclass AreUnits
  pub interfaces : AllByRecursion AreUnits program.interfaces
  pub fields : AllByRecursion (λ field. IsStatement (statements.Field field)) program.fields
  pub methods : AllByRecursion AreMethodLines program.methods

of_code : (code : CodeText) → AllByRecursion IsStatement (code_statements (Some code)) → AreWhole code → AreCodeLines code
of_code code all whole =
    let lines = map statements.Code code.lines in
    let catches = map statements.Catch code.catches in
    let frames = flat_map frame_statements code.frames in
    let front = all_front IsStatement (lines ++ catches) frames all.1 in
    record {
      stack = all.0.0;
      locals = all.0.1;
      lines = all_of_map IsStatement statements.Code code.lines (all_front IsStatement lines catches front);
      catches = all_of_map IsStatement statements.Catch code.catches (all_back IsStatement lines catches front);
      frames = all_of_flat IsStatement frame_statements code.frames (all_back IsStatement (lines ++ catches) frames all.1);
      whole = whole;
    }

code_has : (code : CodeText) → AreCodeLines code → AllByRecursion IsStatement (code_statements (Some code))
code_has code are =
    let lines = map statements.Code code.lines in
    let catches = map statements.Catch code.catches in
    let frames = flat_map frame_statements code.frames in (
      (are.stack, are.locals),
      all_both IsStatement (lines ++ catches) frames
          (all_both IsStatement lines catches (all_mapped IsStatement statements.Code code.lines are.lines) (all_mapped IsStatement statements.Catch code.catches are.catches))
          (all_flat IsStatement frame_statements code.frames are.frames),
    )

of_method : (method : MethodText) → AllByRecursion IsStatement (method_statements method) → IfSome method.code AreWhole → AreMethodLines method
of_method method all whole = record { head = all.0; code = of method.code (all_front IsStatement (code_statements method.code) (statements.End ∷ []) all.1) whole } where
  of : (code : Option CodeText) → AllByRecursion IsStatement (code_statements code) → IfSome code AreWhole → IfSome code AreCodeLines
  of None all whole = tt
  of (Some code) all whole = of_code code all whole

method_has : (method : MethodText) → AreMethodLines method → AllByRecursion IsStatement (method_statements method)
method_has method are = (are.head, all_both IsStatement (code_statements method.code) (statements.End ∷ []) (of method.code are.code) (tt, tt)) where
  of : (code : Option CodeText) → IfSome code AreCodeLines → AllByRecursion IsStatement (code_statements code)
  of None are = tt
  of (Some code) are = code_has code are

whole_of : (method : MethodText) → AreMethodLines method → IfSome method.code AreWhole
whole_of method are = of method.code are.code where
  of : (code : Option CodeText) → IfSome code AreCodeLines → IfSome code AreWhole
  of None are = tt
  of (Some code) are = are.whole

pub of_lines : (program : Program) → HasLines program → AreProgramLines program
of_lines program has =
    let interfaces = map statements.Implements program.interfaces in
    let fields = map statements.Field program.fields in
    let methods = flat_map method_statements program.methods in
    let front = all_front IsStatement (interfaces ++ fields) methods has.each.1 in
    record {
      own = has.each.0;
      interfaces = all_of_map IsStatement statements.Implements program.interfaces (all_front IsStatement interfaces fields front);
      fields = all_of_map IsStatement statements.Field program.fields (all_back IsStatement interfaces fields front);
      methods =
          all_two (λ method. AllByRecursion IsStatement (method_statements method)) (λ method. IfSome method.code AreWhole) AreMethodLines of_method program.methods
          (all_of_flat IsStatement method_statements program.methods (all_back IsStatement (interfaces ++ fields) methods has.each.1)) has.whole;
    }

pub lines_have : (program : Program) → AreProgramLines program → HasLines program
lines_have program are =
    let interfaces = map statements.Implements program.interfaces in
    let fields = map statements.Field program.fields in
    let methods = flat_map method_statements program.methods in
    record {
      each = (
        are.own,
        all_both IsStatement (interfaces ++ fields) methods
            (all_both IsStatement interfaces fields (all_mapped IsStatement statements.Implements program.interfaces are.interfaces) (all_mapped IsStatement statements.Field program.fields are.fields))
            (all_flat IsStatement method_statements program.methods (all_each AreMethodLines (λ method. AllByRecursion IsStatement (method_statements method)) method_has program.methods are.methods)),
      );
      whole = all_each AreMethodLines (λ method. IfSome method.code AreWhole) whole_of program.methods are.methods;
    }

-- programs with fewer members, and with other code in the last method
pub fewer_lines : (program : Program) (interfaces more_interfaces : List (List ℕ)) (fields more_fields : List FieldText) (methods more_methods : List MethodText)
    → AreProgramLines (tree program (interfaces ++ more_interfaces) (fields ++ more_fields) (methods ++ more_methods)) → AreProgramLines (tree program interfaces fields methods)
fewer_lines program interfaces more_interfaces fields more_fields methods more_methods are = record {
  own = are.own;
  interfaces = all_front AreUnits interfaces more_interfaces are.interfaces;
  fields = all_front (λ field. IsStatement (statements.Field field)) fields more_fields are.fields;
  methods = all_front AreMethodLines methods more_methods are.methods;
}

pub last_lines : (program : Program) (interfaces : List (List ℕ)) (fields : List FieldText) (methods : List MethodText) (method : MethodText) (code code_too : CodeText) → (AreCodeLines code → AreCodeLines code_too)
    → AreProgramLines (tree program interfaces fields (methods ++ with_code method (Some code) ∷ [])) → AreProgramLines (tree program interfaces fields (methods ++ with_code method (Some code_too) ∷ []))
last_lines program interfaces fields methods method code code_too goes are =
    let last = (all_back AreMethodLines methods (with_code method (Some code) ∷ []) are.methods).0 in
    record {
      own = are.own;
      interfaces = are.interfaces;
      fields = are.fields;
      methods = all_both AreMethodLines methods (with_code method (Some code_too) ∷ []) (all_front AreMethodLines methods (with_code method (Some code) ∷ []) are.methods) (record { head = last.head; code = goes last.code }, tt);
    }

-- code of fewer lines
pub bare_lines : (stack locals : ℕ) (lines : List CodeLine) → stack < 2 ^ 16 → locals < 2 ^ 16 → AllByRecursion IsCodeLine lines → AreCodeLines (text stack locals lines [] [])
bare_lines stack locals lines stack_fits locals_fit are = record { stack = stack_fits; locals = locals_fit; lines = are; catches = tt; frames = tt; whole = tt }

pub fewer_code_lines : (stack locals : ℕ) (lines : List CodeLine) (catches more_catches : List CatchLine) (frames more_frames : List FrameLine)
    → AreCodeLines (text stack locals lines (catches ++ more_catches) (frames ++ more_frames)) → AreCodeLines (text stack locals lines catches frames)
fewer_code_lines stack locals lines catches more_catches frames more_frames are = record {
  stack = are.stack;
  locals = are.locals;
  lines = are.lines;
  catches = all_front IsCatch catches more_catches are.catches;
  frames = all_front (λ frame. AllByRecursion IsStatement (frame_statements frame)) frames more_frames are.frames;
  whole = all_front IsWhole frames more_frames are.whole;
}
