-- What is told of the words of a line is told of the line.
use Rattle.std.proofs.Common.{Bor, Err, IfOk, List, MatchOption, None, Ok, Option, Result, Some, ap, map, subst, sym, ℕ, ◌∙◌, ◌≡◌, ◌≢◌}
use Rattle.std.specs.List.{join_with_byte}
use Rattle.cb_asm_line.specs.Inner.{AreWords}
use Rattle.cb_asm_line.specs.Lines.{Line, space}
use Rattle.cb_asm_line.specs.SaidLines.{IsSpelled}
use Rattle.cb_asm_line.specs.Statements.{IsStatement, statement_text, statement_words}
use Rattle.cb_asm_line.specs.declared.statement.Statement.{Statement}
use Rattle.cb_asm_line.proofs.Shown.{statement_shown}
use Rattle.cb_asm_line.proofs.Worded.{words_one}

pub line_told : {E : Type 0} (line : List ℕ) (words : Line) (result : Result (Option Statement) E) → join_with_byte space words ≡ line → AreWords words
    → IfOk result (λ found. MatchOption found ((statement : Statement) → IsSpelled words statement → ⊥) (λ statement. IsSpelled words statement))
    → IfOk result (λ found. MatchOption found ((other : Statement) → IsStatement other → line ≢ statement_text other) (λ statement. IsStatement statement × (line ≡ statement_text statement)))
line_told line words (Err fault) whole are told = tt
line_told line words (Ok None) whole are none = λ other is same. none other (record { is = is; are = words_one words (statement_words other) are (statement_shown other is).apart (whole ∙ same) })
line_told line words (Ok (Some statement)) whole are told = (told.is, sym whole ∙ ap (join_with_byte space) told.are)

-- the same of the words as they were read
pub line_read : {E : Type 0} (line : List ℕ) (read given : List (Bor (List ℕ))) (result : Result (Option Statement) E) → given ≡ read → join_with_byte space (map (λ word. word.now) read) ≡ line → AreWords (map (λ word. word.now) read)
    → IfOk result (λ found. MatchOption found ((statement : Statement) → IsSpelled (map (λ word. word.now) given) statement → ⊥) (λ statement. IsSpelled (map (λ word. word.now) given) statement))
    → IfOk result (λ found. MatchOption found ((other : Statement) → IsStatement other → line ≢ statement_text other) (λ statement. IsStatement statement × (line ≡ statement_text statement)))
line_read line read given result same whole are told =
    let Is : List (Bor (List ℕ)) → Type 0 = λ each. IfOk result (λ found. MatchOption found ((statement : Statement) → IsSpelled (map (λ word. word.now) each) statement → ⊥) (λ statement. IsSpelled (map (λ word. word.now) each) statement)) in
    line_told line (map (λ word. word.now) read) result whole are (subst Is same told)

-- two lines of the format with one text have the same words
pub words_same : (one other : Statement) → IsStatement one → IsStatement other → statement_text one ≡ statement_text other → statement_words one ≡ statement_words other
words_same one other is are same = words_one (statement_words one) (statement_words other) (statement_shown one is).apart (statement_shown other are).apart same
