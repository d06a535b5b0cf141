-- The record of a text.
use Rattle.std.proofs.Common.{◌≡◌, ◌≢◌, ◌↔◌, ◌∙◌, ap, sym, refl, subst, ℕ, Bool, true, false, List, [], ◌∷◌, ◌++◌, map, IsTrue, IsFalse}
use Rattle.std.specs.List.{AllByRecursion, flat_map}
use Rattle.std.proofs.lemmas.Grind.{flat_map-append}
use Rattle.cb_classfile.specs.declared.class.ClassFile.{ClassFile}
use Rattle.cb_classfile.specs.Class.{IsWellFormed}
use Rattle.cb_asm_line.specs.declared.program.Program.{Program}
use Rattle.cb_asm_line.specs.Lines.{Line, line_text, lines_text}
use Rattle.cb_asm_line.specs.Spelling.{program_lines, program_text}
use Rattle.cb_asm_line.specs.Statements.{HasLines, statements_of}
use Rattle.cb_asm_prefix.specs.Closing.{AreOpen, Close, CloseOpen, CloseWith, End, Limits, Open, Whole, last_code, limits_lines, nop_lines}
use Rattle.cb_asm_record.specs.Grammar.{Assembles, HasCode, IsProgram}
use Rattle.cb_asm_record.specs.Record.{class_of}
use Rattle.cb_asm.specs.Inner.{Begins, ClosesNot, ClosesWith, IsProgramText, OpensNot, label_lines_text}
use Rattle.cb_asm.proofs.Programs.{one_program}
use Rattle.cb_asm.proofs.TextLines.{one_lines, text_said}

-- a text is that of one program at most
pub one_text : (text : List ℕ) (one other : Program) → HasLines one → HasLines other → text ≡ program_text one → text ≡ program_text other → one ≡ other
one_text text one other has too is are =
    one_program one other has.whole too.whole (one_lines (statements_of one) (statements_of other) has.each too.each (sym (text_said one has.whole) ∙ sym is ∙ are ∙ text_said other too.whole))

-- where the one isn't a program the text has no record
pub no_record : (text : List ℕ) (program : Program) → HasLines program → text ≡ program_text program → ¬ IsProgram program → (class : ClassFile) → ¬ Assembles text class
no_record text program has is none class assembles =
    none (subst IsProgram (one_text text assembles.program program assembles.is.lines has assembles.spelled is) assembles.is)

pub no_text : (text : List ℕ) → ((other : Program) → HasLines other → text ≢ program_text other) → (class : ClassFile) → ¬ Assembles text class
no_text text none class assembles = none assembles.program assembles.is.lines assembles.spelled

pub unformed : (text : List ℕ) (program : Program) (class : ClassFile) → HasLines program → text ≡ program_text program → class ≡ class_of program → ¬ IsWellFormed class
    → (other : ClassFile) → ¬ Assembles text other
unformed text program class has is made none = no_record text program has is (λ each. none (subst IsWellFormed (sym made) each.formed))

pub has_record : (text : List ℕ) (program : Program) (class : ClassFile) → HasLines program → text ≡ program_text program → (class ≡ class_of program) × HasCode program → IsWellFormed class
    → Assembles text class
has_record text program class has is made formed =
    record { program = program; is = record { lines = has; code = made.1; formed = subst IsWellFormed made.0 formed }; spelled = is; recorded = made.0 }

-- a text has one record at most
pub one_record : (text : List ℕ) (one other : ClassFile) → Assembles text one → Assembles text other → one ≡ other
one_record text one other is are =
    is.recorded ∙ ap class_of (one_text text is.program are.program is.is.lines are.is.lines is.spelled are.spelled) ∙ sym are.recorded

-- a program's text has a record
pub text_record : (text : List ℕ) → IsProgramText text → (class : ClassFile) × Assembles text class
text_record text is = (class_of is.program, record { program = is.program; is = is.is; spelled = is.spelled; recorded = refl })

pub record_text : (text : List ℕ) (class : ClassFile) → Assembles text class → IsProgramText text
record_text text class is = record { program = is.program; is = is.is; spelled = is.spelled }

-- what closes a text
pub closes_is : (text front closing : List ℕ) → text ≡ front ++ closing → IsProgramText text → ClosesWith front closing
closes_is text front closing is told = record { program = told.program; is = told.is; spelled = sym told.spelled ∙ is }

pub is_closed : (text front closing : List ℕ) → text ≡ front ++ closing → ClosesWith front closing → IsProgramText text
is_closed text front closing is told = record { program = told.program; is = told.is; spelled = is ∙ sym told.spelled }

pub closes_exactly : (text front closing : List ℕ) (result : Bool) → text ≡ front ++ closing → (IsTrue result ↔ IsProgramText text) → (IsTrue result ↔ ClosesWith front closing)
closes_exactly text front closing result is told = ((λ yes. closes_is text front closing is (told.0 yes)), (λ closed. told.1 (is_closed text front closing is closed)))

pub begins : (front closing : List ℕ) → ClosesWith front closing → Begins front
begins front closing told = record { program = told.program; is = told.is; rest = closing; spelled = told.spelled }

-- lines that close as lines close as a text
pub closes_text : (front : List ℕ) (lines closing : List Line) → front ≡ lines_text lines → CloseWith lines closing → ClosesWith front (lines_text closing)
closes_text front lines closing is told =
    record { program = told.program; is = told.is; spelled = ap lines_text told.spelled ∙ flat_map-append line_text lines closing ∙ ap (λ each. each ++ lines_text closing) (sym is) }

pub not_text : (text : List ℕ) → ((class : ClassFile) → ¬ Assembles text class) → IsTrue false ↔ IsProgramText text
not_text text none = ((λ yes. absurd (cc yes)), (λ is. let found = text_record text is in absurd (none found.0 found.1)))

pub is_not : (result : Bool) (Is : Type 0) → (IsTrue result ↔ Is) → result ≡ false → ¬ Is
is_not true Is told no_one is = absurd (cc no_one)
is_not false Is told no_one is = absurd (cc (told.1 is))
