-- The lines of a text, one after the other.
use Rattle.std.proofs.Common.{◌≡◌, ◌≢◌, ◌∙◌, ap, sym, refl, subst, arith, append-nil, append_assoc, length-append, ℕ, suc, ◌+◌, ◌≤◌, Bool, true, List, [], ◌∷◌, ◌++◌, ◌==◌, length, map, Option, Some, None, Result, Ok, Err, IfOk, MatchOption}
use Rattle.std.specs.List.{AllByRecursion, flat_map, join_with_byte}
use Rattle.std.proofs.lemmas.Bool.{eqb-true}
use Rattle.std.proofs.lemmas.Grind.{flat_map-append}
use Rattle.cb_asm_line.specs.declared.program.Program.{Program}
use Rattle.cb_asm_line.specs.declared.statement.Statement.{Statement}
use Rattle.cb_asm_line.specs.Lines.{Lacks, line_text, lines_text, newline, space}
use Rattle.cb_asm_line.specs.Spelling.{program_lines, program_text}
use Rattle.cb_asm_line.specs.Statements.{HasLines, IsStatement, statement_text, statement_words, statements_of}
use Rattle.cb_asm_line.proofs.Laws.{one_statement, program_said, whole_line}
use Rattle.cb_asm.specs.Inner.{IsMethod, said_text}

-- what stands before the first newline is told apart from what is behind it
pub one_cut : (one other rest next : List ℕ) → Lacks newline one → Lacks newline other → one ++ newline ∷ rest ≡ other ++ newline ∷ next → (one ≡ other) × (rest ≡ next)
one_cut [] [] rest next lacks too is = (refl, cc is)
one_cut [] (unit ∷ other) rest next lacks too is = absurd (too.0 (cc is))
one_cut (unit ∷ one) [] rest next lacks too is = absurd (lacks.0 (cc is))
one_cut (unit ∷ one) (first ∷ other) rest next lacks too is =
    let here : unit ≡ first = cc is in
    let there : one ++ newline ∷ rest ≡ other ++ newline ∷ next = cc is in
    let behind = one_cut one other rest next lacks.1 too.1 there in
    (ap (λ each. each ∷ one) here ∙ ap (λ each. first ∷ each) behind.0, behind.1)

line_of : Statement → List ℕ
line_of statement = statement_text statement ++ newline ∷ []

said_behind : (statement : Statement) (rest : List ℕ) → (statement_text statement ++ newline ∷ []) ++ rest ≡ statement_text statement ++ newline ∷ rest
said_behind statement rest = append_assoc (statement_text statement) (newline ∷ []) rest

-- what is left of a text behind some of its lines is that of others
pub left_over : (done others : List Statement) (rest : List ℕ) → AllByRecursion IsStatement done → AllByRecursion IsStatement others → said_text others ≡ said_text done ++ rest
    → (left : List Statement) × AllByRecursion IsStatement left × (rest ≡ said_text left)
left_over [] others rest is are text = (others, are, sym text)
left_over (statement ∷ done) [] rest is are text = absurd (nothing (statement_text statement) (said_text done) rest (text ∙ ap (λ each. each ++ rest) (said_behind statement (said_text done))))
  where
    nothing : (line behind rest : List ℕ) → [] ≡ (line ++ newline ∷ behind) ++ rest → ⊥
    nothing [] behind rest is = absurd (cc is)
    nothing (unit ∷ line) behind rest is = absurd (cc is)
left_over (statement ∷ done) (other ∷ others) rest is are text =
    left_over done others rest is.1 are.1 (sym (one_cut (statement_text statement) (statement_text other) (said_text done ++ rest) (said_text others) (whole_line statement is.0) (whole_line other are.0) (sym (append_assoc (statement_text statement) (newline ∷ said_text done) rest) ∙ ap (λ each. each ++ rest) (sym (said_behind statement (said_text done))) ∙ sym text ∙ said_behind other (said_text others))).1)

-- a text whose front is no line is that of none
pub no_lines : (done others : List Statement) (rest : List ℕ) → AllByRecursion IsStatement done → AllByRecursion IsStatement others → said_text others ≡ said_text done ++ rest
    → rest ≢ [] → ((statement : Statement) (next : List ℕ) → IsStatement statement → rest ≢ statement_text statement ++ newline ∷ next) → ⊥
no_lines done others rest is are text some none = by_left (left_over done others rest is are text)
  where
    by_left : ((left : List Statement) × AllByRecursion IsStatement left × (rest ≡ said_text left)) → ⊥
    by_left ([], all, same) = some same
    by_left (statement ∷ left, all, same) = none statement (said_text left) all.0 (same ∙ said_behind statement (said_text left))

-- one more line
one_said : (statement : Statement) → said_text (statement ∷ []) ≡ statement_text statement ++ newline ∷ []
one_said statement = append-nil (statement_text statement ++ newline ∷ [])

more_said : (done : List Statement) (statement : Statement) (behind : List ℕ) → said_text done ++ (statement_text statement ++ newline ∷ behind) ≡ said_text (done ++ statement ∷ []) ++ behind
more_said done statement behind =
    ap (λ each. said_text done ++ each) (sym (said_behind statement behind))
    ∙ sym (append_assoc (said_text done) (statement_text statement ++ newline ∷ []) behind)
    ∙ ap (λ each. each ++ behind) (ap (λ each. said_text done ++ each) (sym (one_said statement)) ∙ sym (flat_map-append (λ line. statement_text line ++ newline ∷ []) done (statement ∷ [])))

pub line_more : (whole rest line behind : List ℕ) (done : List Statement) (statement : Statement) → whole ≡ said_text done ++ rest → rest ≡ line ++ newline ∷ behind → line ≡ statement_text statement
    → whole ≡ said_text (done ++ statement ∷ []) ++ behind
line_more whole rest line behind done statement is cut said =
    is ∙ ap (λ each. said_text done ++ each) (cut ∙ ap (λ each. each ++ newline ∷ behind) said) ∙ more_said done statement behind

-- no line stands at the front where there is no newline, or where what stands before it is none
pub no_line_at : (rest : List ℕ) → Lacks newline rest → (statement : Statement) (next : List ℕ) → IsStatement statement → rest ≢ statement_text statement ++ newline ∷ next
no_line_at rest lacks statement next _ is = nowhere rest (statement_text statement) next lacks is
  where
    nowhere : (rest line next : List ℕ) → Lacks newline rest → rest ≡ line ++ newline ∷ next → ⊥
    nowhere [] [] next lacks is = absurd (cc is)
    nowhere [] (unit ∷ line) next lacks is = absurd (cc is)
    nowhere (unit ∷ rest) [] next lacks is = lacks.0 (cc is)
    nowhere (unit ∷ rest) (first ∷ line) next lacks is = nowhere rest line next lacks.1 (cc is)

pub other_line : (rest line behind : List ℕ) → Lacks newline line → rest ≡ line ++ newline ∷ behind → ((other : Statement) → IsStatement other → line ≢ statement_text other)
    → (statement : Statement) (next : List ℕ) → IsStatement statement → rest ≢ statement_text statement ++ newline ∷ next
other_line rest line behind lacks cut none statement next is same =
    none statement is (one_cut line (statement_text statement) behind next lacks (whole_line statement is) (sym cut ∙ same)).0

pub shorter : (rest line behind : List ℕ) → rest ≡ line ++ newline ∷ behind → suc (length behind) ≤ length rest
shorter rest line behind cut =
    let long : length rest ≡ length line + suc (length behind) = ap length cut ∙ length-append line (newline ∷ behind) in omega (arith, long)

-- the text of a program is that of its lines
pub text_said : (program : Program) → AllByRecursion IsMethod program.methods → program_text program ≡ said_text (statements_of program)
text_said program whole = ap lines_text (sym (program_said program whole)) ∙ lines_said (statements_of program)
  where
    lines_said : (lines : List Statement) → lines_text (map statement_words lines) ≡ said_text lines
    lines_said [] = refl
    lines_said (line ∷ lines) = ap (λ rest. line_text (statement_words line) ++ rest) (lines_said lines)

-- no line of a text is empty
some_said : (line : Statement) (lines : List Statement) → [] ≢ said_text (line ∷ lines)
some_said line lines is = some (statement_text line) (said_text lines) is
  where
    some : (front behind : List ℕ) → [] ≢ (front ++ newline ∷ []) ++ behind
    some [] behind is = absurd (cc is)
    some (unit ∷ front) behind is = absurd (cc is)

-- a text is that of one list of lines at most
pub one_lines : (one other : List Statement) → AllByRecursion IsStatement one → AllByRecursion IsStatement other → said_text one ≡ said_text other → one ≡ other
one_lines [] [] is are same = refl
one_lines [] (line ∷ other) is are same = absurd (some_said line other same)
one_lines (line ∷ one) [] is are same = absurd (some_said line one (sym same))
one_lines (line ∷ one) (first ∷ other) is are same =
    let cut = one_cut (statement_text line) (statement_text first) (said_text one) (said_text other) (whole_line line is.0) (whole_line first are.0) (sym (said_behind line (said_text one)) ∙ same ∙ said_behind first (said_text other)) in
    ap (λ each. each ∷ one) (one_statement line first is.0 are.0 cut.0) ∙ ap (λ each. first ∷ each) (one_lines one other is.1 are.1 cut.1)

-- no text is left
pub nothing_left : (whole rest : List ℕ) (lines : List Statement) → whole ≡ said_text lines ++ rest → (length rest == 0) ≡ true → whole ≡ said_text lines
nothing_left whole [] lines is none = is ∙ append-nil (said_text lines)
nothing_left whole (unit ∷ rest) lines is none = absurd (omega (arith, eqb-true (length (unit ∷ rest)) 0 none))

-- the lines of a text gathered
pub gathered : (text : List ℕ) (lines : List Statement) (found : Option Program) → AllByRecursion IsStatement lines → text ≡ said_text lines
    → MatchOption found ((other : Program) → AllByRecursion IsMethod other.methods → statements_of other ≢ lines) (λ program. AllByRecursion IsMethod program.methods × (statements_of program ≡ lines))
    → MatchOption found ((other : Program) → HasLines other → text ≢ program_text other) (λ program. HasLines program × (text ≡ program_text program))
gathered text lines None are is none = λ other has same.
    none other has.whole (one_lines (statements_of other) lines has.each are (sym (text_said other has.whole) ∙ sym same ∙ is))
gathered text lines (Some program) are is told =
    (record { each = subst (AllByRecursion IsStatement) (sym told.1) are; whole = told.0 }, is ∙ ap said_text (sym told.1) ∙ sym (text_said program told.0))

pub gathered_ok : {E : Type 0} (text : List ℕ) (lines : List Statement) (result : Result (Option Program) E) → AllByRecursion IsStatement lines → text ≡ said_text lines
    → IfOk result (λ found. MatchOption found ((other : Program) → AllByRecursion IsMethod other.methods → statements_of other ≢ lines) (λ program. AllByRecursion IsMethod program.methods × (statements_of program ≡ lines)))
    → IfOk result (λ found. MatchOption found ((other : Program) → HasLines other → text ≢ program_text other) (λ program. HasLines program × (text ≡ program_text program)))
gathered_ok text lines (Err fault) are is told = tt
gathered_ok text lines (Ok found) are is told = gathered text lines found are is told

pub not_gathered : (text : List ℕ) → ((others : List Statement) → AllByRecursion IsStatement others → text ≢ said_text others) → (other : Program) → HasLines other → text ≢ program_text other
not_gathered text none other has same = none (statements_of other) has.each (same ∙ text_said other has.whole)
