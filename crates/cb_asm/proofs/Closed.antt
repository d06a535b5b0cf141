-- How lines close as texts do.
use Rattle.std.proofs.Common.{◌≡◌, ◌≢◌, ◌↔◌, ◌∙◌, ap, sym, refl, subst, append_assoc, ℕ, Bool, true, false, List, Bor, [], ◌∷◌, ◌++◌, map, IsTrue, IsFalse, Result, Ok, Err, IfOk}
use Rattle.std.specs.List.{AllByRecursion, flat_map}
use Rattle.std.proofs.lemmas.Grind.{flat_map-append}
use Rattle.cb_asm_line.specs.declared.program.CodeLine.TheVariants.{Here}
use Rattle.cb_asm_line.specs.declared.program.Program.{Program}
use Rattle.cb_asm_line.specs.Lines.{Line, line_text, lines_text}
use Rattle.cb_asm_line.specs.Spelling.{code_line, end_line, program_lines, program_text}
use Rattle.cb_asm_line.specs.Statements.{HasLines}
use Rattle.cb_asm_prefix.specs.Closing.{AreOpen, Close, CloseOpen, CloseWith, End, Limits, Open, Whole, last_code, limits_lines, nop_lines}
use Rattle.cb_asm.specs.Inner.{Begins, ClosesNot, ClosesWith, OpensNot, label_lines_text, label_text}
use Rattle.cb_asm.proofs.Records.{begins, closes_text, one_text}

-- the lines of labels as a text
pub labels_told : (labels : List (Bor (List ℕ))) → flat_map (λ label. label_text label.now) labels ≡ flat_map label_text (map (λ label. label.now) labels)
labels_told [] = refl
labels_told (label ∷ labels) = ap (λ rest. label_text label.now ++ rest) (labels_told labels)

label_lines : (labels : List (List ℕ)) → lines_text (map (λ label. code_line (Here label)) labels) ≡ flat_map label_text labels
label_lines [] = refl
label_lines (label ∷ labels) = ap (λ rest. label_text label ++ rest) (label_lines labels)

closing_lines : (labels : List (List ℕ)) → lines_text (map (λ label. code_line (Here label)) labels ++ nop_lines) ≡ label_lines_text labels
closing_lines labels =
    flat_map-append line_text (map (λ label. code_line (Here label)) labels) nop_lines ∙ ap (λ rest. rest ++ lines_text nop_lines) (label_lines labels)

pub labels_closed : (labels : List (Bor (List ℕ))) (text whole : List ℕ) → text ≡ flat_map (λ label. label_text label.now) labels → whole ≡ text ++ lines_text nop_lines
    → whole ≡ label_lines_text (map (λ label. label.now) labels)
labels_closed labels text whole is all = all ∙ ap (λ rest. rest ++ lines_text nop_lines) (is ∙ labels_told labels)

-- the program of lines that are opened, as its text
open_text : (front text : List ℕ) (lines : List Line) (opened : CloseOpen lines) → text ≡ front ++ lines_text nop_lines → front ≡ lines_text lines → text ≡ program_text opened.program
open_text front text lines opened is are =
    is ∙ ap (λ rest. rest ++ lines_text nop_lines) are ∙ sym (flat_map-append line_text lines nop_lines) ∙ ap lines_text (sym opened.spelled)

pub open_none : (front text : List ℕ) → text ≡ front ++ lines_text nop_lines → ((other : Program) → HasLines other → text ≢ program_text other) → OpensNot front
open_none front text is none lines are opened = none opened.program opened.lines_are (open_text front text lines opened is are)

pub open_closes : (front text : List ℕ) (program : Program) (labels : List (List ℕ)) (closing : List ℕ) → text ≡ front ++ lines_text nop_lines → HasLines program → text ≡ program_text program
    → AreOpen (last_code program.methods) labels → closing ≡ label_lines_text labels → (lines : List Line) → front ≡ lines_text lines → CloseOpen lines → ClosesWith front closing
open_closes front text program labels closing is has read opened told lines are opens =
    let same = one_text text program opens.program has opens.lines_are read (open_text front text lines opens is are) in
    let with = opens.closed labels (subst (λ each. AreOpen (last_code each.methods) labels) same opened) in
    subst (ClosesWith front) (closing_lines labels ∙ sym told) (closes_text front lines (map (λ label. code_line (Here label)) labels ++ nop_lines) are with)

pub open_falls : {E : Type 0} (front closing : List ℕ) (result : Result Bool E) → IfOk result (λ is. IsTrue is ↔ ClosesWith front closing)
    → ((lines : List Line) → front ≡ lines_text lines → CloseOpen lines → ClosesWith front closing) → IfOk result (λ stands. IsFalse stands → OpensNot front)
open_falls front closing (Err fault) told closes = tt
open_falls front closing (Ok true) told closes = λ no_one lines are opened. absurd (cc no_one)
open_falls front closing (Ok false) told closes = λ _ lines are opened. absurd (cc (told.1 (closes lines are opened)))

pub begins_ok : {E : Type 0} (front closing : List ℕ) (result : Result Bool E) → IfOk result (λ is. IsTrue is ↔ ClosesWith front closing) → IfOk result (λ stands. IsTrue stands → Begins front)
begins_ok front closing (Err fault) told = tt
begins_ok front closing (Ok is) told = λ stands. begins front closing (told.0 stands)

close_none : (front : List ℕ) → ¬ ClosesWith front [] → ¬ ClosesWith front (lines_text (end_line ∷ [])) → ¬ ClosesWith front (lines_text limits_lines) → OpensNot front → ClosesNot front
close_none front whole end limits opened lines are (Whole with) = whole (closes_text front lines [] are with)
close_none front whole end limits opened lines are (End with) = end (closes_text front lines (end_line ∷ []) are with)
close_none front whole end limits opened lines are (Limits with) = limits (closes_text front lines limits_lines are with)
close_none front whole end limits opened lines are (Open with) = opened lines are with

pub close_falls : {E : Type 0} (front : List ℕ) (result : Result Bool E) → IfOk result (λ stands. IsFalse stands → OpensNot front)
    → ¬ ClosesWith front [] → ¬ ClosesWith front (lines_text (end_line ∷ [])) → ¬ ClosesWith front (lines_text limits_lines) → IfOk result (λ stands. IsFalse stands → ClosesNot front)
close_falls front (Err fault) told whole end limits = tt
close_falls front (Ok stands) told whole end limits = λ falls. close_none front whole end limits (told falls)
