-- The first lines of a text.
use Rattle.std.proofs.Common.{◌≡◌, ◌≢◌, ◌⊎◌, ◌∙◌, ap, sym, refl, subst, inl, inr, arith, append-nil, append_assoc, length-append, ℕ, zero, suc, ◌+◌, ◌<◌, ◌≤◌, Bool, true, false, List, [], ◌∷◌, ◌++◌, ◌==◌, length, take, map, if◌then◌else◌, slice_get, slice_index_or, Option, Some, ◌-◌}
use Rattle.std.specs.List.{AllByRecursion, flat_map, join_with_byte}
use Rattle.std.proofs.lemmas.Bool.{eqb-true}
use Rattle.std.proofs.lemmas.Grind.{flat_map-append}
use Rattle.std.proofs.lemmas.List.{take_all}
use Rattle.std.proofs.lemmas.Option.{same_Some, slice_get-get_or}
use Rattle.cb_asm_line.specs.declared.program.Program.{Program}
use Rattle.cb_asm_line.specs.declared.statement.Statement.{Statement}
use Rattle.cb_asm_line.specs.Lines.{Lacks, Line, line_text, lines_of, lines_text, newline, put_first, space}
use Rattle.cb_asm_line.specs.Spelling.{program_lines, program_text}
use Rattle.cb_asm_line.specs.Statements.{IsStatement, statement_text, statement_words, statements_of}
use Rattle.cb_asm_line.proofs.Laws.{program_said, whole_line}
use Rattle.cb_asm_prefix.specs.Closing.{Close}
use Rattle.cb_asm_record.specs.Grammar.{IsProgram}
use Rattle.cb_asm.specs.BadLines.{BeginsAs, CanStand, IsFirstBadLine}
use Rattle.cb_asm.specs.Inner.{AreEnds, Begins, ClosesNot, IsProgramText, StandTo, ended, ends_from, said_text}
use Rattle.cb_asm.proofs.Parts.{all_more}
use Rattle.cb_asm.proofs.TextLines.{text_said}

line_with : List ℕ → List ℕ
line_with line = line ++ newline ∷ []

-- a line at the front of a text
first_line : (line rest : List ℕ) → Lacks newline line → lines_of (line ++ newline ∷ rest) ≡ line_with line ∷ lines_of rest
unfolding line_with
first_line [] rest lacks = refl
first_line (unit ∷ line) rest lacks = by_test (first_line line rest lacks.1) (unit == newline) refl
  where
    by_test : lines_of (line ++ newline ∷ rest) ≡ line_with line ∷ lines_of rest → (test : Bool) → (unit == newline) ≡ test → (if test then (newline ∷ []) ∷ lines_of (line ++ newline ∷ rest) else put_first unit (lines_of (line ++ newline ∷ rest))) ≡ (unit ∷ line_with line) ∷ lines_of rest
    by_test next true told = absurd (lacks.0 (eqb-true unit newline told))
    by_test next false told = ap (put_first unit) next

lines_behind : (lines : List (List ℕ)) (rest : List ℕ) → AllByRecursion (Lacks newline) lines → lines_of (ended lines ++ rest) ≡ map line_with lines ++ lines_of rest
unfolding line_with
lines_behind [] rest whole = refl
lines_behind (line ∷ lines) rest whole =
    ap lines_of (append_assoc (line ++ newline ∷ []) (ended lines) rest ∙ append_assoc line (newline ∷ []) (ended lines ++ rest))
    ∙ first_line line (ended lines ++ rest) whole.0
    ∙ ap (λ behind. (line ++ newline ∷ []) ∷ behind) (lines_behind lines rest whole.1)

-- what stands without a newline is one line at most
last_line : (rest : List ℕ) → Lacks newline rest → (rest ≡ []) ⊎ (lines_of rest ≡ rest ∷ [])
last_line [] lacks = inl refl
last_line (unit ∷ rest) lacks = inr (by_test (last_line rest lacks.1) (unit == newline) refl)
  where
    by_rest : (rest ≡ []) ⊎ (lines_of rest ≡ rest ∷ []) → put_first unit (lines_of rest) ≡ (unit ∷ rest) ∷ []
    by_rest (inl none) = ap (λ behind. put_first unit (lines_of behind)) none ∙ ap (λ behind. (unit ∷ behind) ∷ []) (sym none)
    by_rest (inr one) = ap (put_first unit) one

    by_test : (rest ≡ []) ⊎ (lines_of rest ≡ rest ∷ []) → (test : Bool) → (unit == newline) ≡ test → (if test then (newline ∷ []) ∷ lines_of rest else put_first unit (lines_of rest)) ≡ (unit ∷ rest) ∷ []
    by_test next true told = absurd (lacks.0 (eqb-true unit newline told))
    by_test next false told = by_rest next

-- the lines of a program's text
said_lines : (lines : List Statement) → AllByRecursion IsStatement lines → lines_of (said_text lines) ≡ map (λ line. line_text (statement_words line)) lines
unfolding line_with
said_lines [] are = refl
said_lines (line ∷ lines) are =
    ap lines_of (append_assoc (statement_text line) (newline ∷ []) (said_text lines))
    ∙ first_line (statement_text line) (said_text lines) (whole_line line are.0)
    ∙ ap (λ behind. line_with (statement_text line) ∷ behind) (said_lines lines are.1)

map_both : (lines : List Statement) → map line_text (map statement_words lines) ≡ map (λ line. line_text (statement_words line)) lines
map_both [] = refl
map_both (line ∷ lines) = ap (λ rest. line_text (statement_words line) ∷ rest) (map_both lines)

program_lines_of : (program : Program) → IsProgram program → lines_of (program_text program) ≡ map line_text (program_lines program)
program_lines_of program is =
    ap lines_of (text_said program is.lines.whole) ∙ said_lines (statements_of program) is.lines.each ∙ sym (map_both (statements_of program)) ∙ ap (map line_text) (program_said program is.lines.whole)

length_mapped : {Item Other : Type 0} (f : Item → Other) (items : List Item) → length (map f items) ≡ length items
length_mapped f [] = refl
length_mapped f (item ∷ items) = ap suc (length_mapped f items)

-- so many of the first
take_front : {Item : Type 0} (count : ℕ) (items more : List Item) → count ≤ length items → take count (items ++ more) ≡ take count items
take_front zero items more few = refl
take_front (suc count) [] more few = absurd (omega (arith, few))
take_front (suc count) (item ∷ items) more few = ap (λ rest. item ∷ rest) (take_front count items more (omega (arith, few)))

take_map : {Item Other : Type 0} (f : Item → Other) (count : ℕ) (items : List Item) → take count (map f items) ≡ map f (take count items)
take_map f zero items = refl
take_map f (suc count) [] = refl
take_map f (suc count) (item ∷ items) = ap (λ rest. f item ∷ rest) (take_map f count items)

length_take : {Item : Type 0} (count : ℕ) (items : List Item) → count ≤ length items → length (take count items) ≡ count
length_take zero items few = refl
length_take (suc count) [] few = absurd (omega (arith, few))
length_take (suc count) (item ∷ items) few = ap suc (length_take count items (omega (arith, few)))

all_take : {Item : Type 0} (Is : Item → Type 0) (count : ℕ) (items : List Item) → AllByRecursion Is items → AllByRecursion Is (take count items)
all_take Is zero items all = tt
all_take Is (suc count) [] all = tt
all_take Is (suc count) (item ∷ items) all = (all.0, all_take Is count items all.1)

take_twice : {Item : Type 0} (count : ℕ) (items : List Item) → take count (take count items) ≡ take count items
take_twice zero items = refl
take_twice (suc count) [] = refl
take_twice (suc count) (item ∷ items) = ap (λ rest. item ∷ rest) (take_twice count items)

ended_is : (lines : List (List ℕ)) → ended lines ≡ flat_map (λ line. line) (map line_with lines)
unfolding line_with
ended_is [] = refl
ended_is (line ∷ lines) = ap (λ rest. (line ++ newline ∷ []) ++ rest) (ended_is lines)

text_is : (lines : List Line) → lines_text lines ≡ flat_map (λ line. line) (map line_text lines)
text_is [] = refl
text_is (line ∷ lines) = ap (λ rest. line_text line ++ rest) (text_is lines)

front_lines : (text ends : List ℕ) (are : AreEnds text ends) (count : ℕ) → count ≤ length are.lines → take count (lines_of text) ≡ map line_with (take count are.lines)
front_lines text ends are count few =
    ap (λ each. take count (lines_of each)) are.cut
    ∙ ap (take count) (lines_behind are.lines are.rest are.whole)
    ∙ take_front count (map line_with are.lines) (lines_of are.rest) (omega (arith, few, length_mapped line_with are.lines))
    ∙ take_map line_with count are.lines

-- a front that begins a program's text can stand
pub front_stands : (text ends : List ℕ) (are : AreEnds text ends) (count : ℕ) → count ≤ length are.lines → Begins (ended (take count are.lines)) → CanStand text count
front_stands text ends are count few begins =
    let few_taken : count ≤ length (map line_with (take count are.lines)) = omega (arith, length_mapped line_with (take count are.lines), length_take count are.lines few) in (
      begins.program,
      begins.is,
      front_lines text ends are count few
          ∙ ap (map line_with) (sym (take_twice count are.lines))
          ∙ sym (take_map line_with count (take count are.lines))
          ∙ sym (take_front count (map line_with (take count are.lines)) (lines_of begins.rest) few_taken)
          ∙ ap (take count) (sym (lines_behind (take count are.lines) begins.rest (all_take (Lacks newline) count are.lines are.whole)))
          ∙ ap (λ each. take count (lines_of each)) (sym begins.spelled)
          ∙ ap (take count) (program_lines_of begins.program begins.is),
    )

-- and one that closes in no way can't
pub front_falls : ((program : Program) (count : ℕ) → IsProgram program → 0 < count → Close (take count (program_lines program)))
    → (text ends : List ℕ) (are : AreEnds text ends) (count : ℕ) → 0 < count → count ≤ length are.lines → ClosesNot (ended (take count are.lines)) → ¬ CanStand text count
front_falls close text ends are count some few none (program, is, same) =
    none (take count (program_lines program)) (ended_is (take count are.lines) ∙ ap (flat_map (λ line. line)) (sym (front_lines text ends are count few) ∙ same ∙ take_map line_text count (program_lines program)) ∙ sym (text_is (take count (program_lines program)))) (close program count is some)

-- the lines up to one that can stand can
pub stands_before : (text : List ℕ) (count before : ℕ) → before ≤ count → CanStand text count → CanStand text before
stands_before text count before below (program, is, same) =
    (program, is, sym (take_less before count (lines_of text) below) ∙ ap (take before) same ∙ take_less before count (map line_text (program_lines program)) below)
  where
    take_less : {Item : Type 0} (few many : ℕ) (items : List Item) → few ≤ many → take few (take many items) ≡ take few items
    take_less zero many items below = refl
    take_less (suc few) zero items below = absurd (omega (arith, below))
    take_less (suc few) (suc many) [] below = refl
    take_less (suc few) (suc many) (item ∷ items) below = ap (λ rest. item ∷ rest) (take_less few many items (omega (arith, below)))

pub stand_before : (text : List ℕ) (count before : ℕ) → 0 < before → before ≤ count → StandTo text count → CanStand text before
stand_before text count before some below (inl none) = absurd (omega (arith, some, below, none))
stand_before text count before some below (inr stands) = stands_before text count before below stands

-- a newline stands in no text without one
not_line : (rest : List ℕ) (line : Line) → Lacks newline rest → rest ≢ line_text line
not_line rest line lacks is = nowhere rest (line_body line) lacks is
  where
    line_body : Line → List ℕ
    line_body words = join_with_byte space words

    nowhere : (rest front : List ℕ) → Lacks newline rest → rest ≡ front ++ newline ∷ [] → ⊥
    nowhere [] [] lacks is = absurd (cc is)
    nowhere [] (unit ∷ front) lacks is = absurd (cc is)
    nowhere (unit ∷ rest) [] lacks is = lacks.0 (cc is)
    nowhere (unit ∷ rest) (first ∷ front) lacks is = nowhere rest front lacks.1 (cc is)

-- so many lines of others, and no more, are all of them; and the last of so many is one of them
all_there : {Item : Type 0} (f : Item → List ℕ) (count : ℕ) (lines : List (List ℕ)) (items : List Item) → length lines ≡ count → lines ≡ take (suc count) (map f items) → lines ≡ map f items
all_there f zero [] [] long is = refl
all_there f zero [] (item ∷ items) long is = absurd (cc is)
all_there f zero (line ∷ lines) items long is = absurd (omega (arith, long))
all_there f (suc count) [] items long is = absurd (omega (arith, long))
all_there f (suc count) (line ∷ lines) [] long is = absurd (cc is)
all_there f (suc count) (line ∷ lines) (item ∷ items) long is =
    let here : line ≡ f item = cc is in
    let behind : lines ≡ take (suc count) (map f items) = cc is in
    ap (λ each. each ∷ lines) here ∙ ap (λ each. f item ∷ each) (all_there f count lines items (omega (arith, long)) behind)

last_of : {Item : Type 0} (f : Item → List ℕ) (lines : List (List ℕ)) (last : List ℕ) (count : ℕ) (items : List Item) → lines ++ last ∷ [] ≡ take count (map f items) → (item : Item) × (last ≡ f item)
last_of f [] last zero items is = absurd (cc is)
last_of f [] last (suc count) [] is = absurd (cc is)
last_of f [] last (suc count) (item ∷ items) is = (item, cc is)
last_of f (line ∷ lines) last zero items is = absurd (cc is)
last_of f (line ∷ lines) last (suc count) [] is = absurd (cc is)
last_of f (line ∷ lines) last (suc count) (item ∷ items) is = let behind : lines ++ last ∷ [] ≡ take count (map f items) = cc is in last_of f lines last count items behind

-- the line behind the last can't stand, where the text is no program's
whole_falls : (text ends : List ℕ) (are : AreEnds text ends) (program : Program) → are.rest ≡ [] → take (suc (length are.lines)) (lines_of text) ≡ take (suc (length are.lines)) (map line_text (program_lines program))
    → text ≡ program_text program
whole_falls text ends are program none same =
    let cut : text ≡ ended are.lines = are.cut ∙ ap (λ rest. ended are.lines ++ rest) none ∙ append-nil (ended are.lines) in
    let all : lines_of text ≡ map line_with are.lines =
    ap lines_of are.cut ∙ lines_behind are.lines are.rest are.whole ∙ ap (λ rest. map line_with are.lines ++ lines_of rest) none ∙ append-nil (map line_with are.lines) in
    let few : length (map line_with are.lines) ≤ suc (length are.lines) = omega (arith, length_mapped line_with are.lines) in
    let front : map line_with are.lines ≡ take (suc (length are.lines)) (map line_text (program_lines program)) =
    sym (take_all (suc (length are.lines)) (map line_with are.lines) few) ∙ ap (take (suc (length are.lines))) (sym all) ∙ same in
    cut ∙ ended_is are.lines ∙ ap (flat_map (λ line. line)) (all_there line_text (length are.lines) (map line_with are.lines) (program_lines program) (length_mapped line_with are.lines) front) ∙ sym (text_is (program_lines program))

part_falls : (text ends : List ℕ) (are : AreEnds text ends) (program : Program) → lines_of are.rest ≡ are.rest ∷ [] → take (suc (length are.lines)) (lines_of text) ≡ take (suc (length are.lines)) (map line_text (program_lines program)) → ⊥
part_falls text ends are program one same =
    let all : lines_of text ≡ map line_with are.lines ++ are.rest ∷ [] =
    ap lines_of are.cut ∙ lines_behind are.lines are.rest are.whole ∙ ap (λ rest. map line_with are.lines ++ rest) one in
    let few : length (map line_with are.lines ++ are.rest ∷ []) ≤ suc (length are.lines) = omega (arith, length-append (map line_with are.lines) (are.rest ∷ []), length_mapped line_with are.lines) in
    let front : map line_with are.lines ++ are.rest ∷ [] ≡ take (suc (length are.lines)) (map line_text (program_lines program)) =
    sym (take_all (suc (length are.lines)) (map line_with are.lines ++ are.rest ∷ []) few) ∙ ap (take (suc (length are.lines))) (sym all) ∙ same in
    let found = last_of line_text (map line_with are.lines) are.rest (suc (length are.lines)) (program_lines program) front in
    not_line are.rest found.0 are.last found.1

pub end_falls : (text ends : List ℕ) (are : AreEnds text ends) → ¬ IsProgramText text → ¬ CanStand text (suc (length are.lines))
end_falls text ends are none (program, is, same) = elim (last_line are.rest are.last) [ inl empty ↦ none (record { program = program; is = is; spelled = whole_falls text ends are program empty same }) | inr one ↦ part_falls text ends are program one same ]

-- so many behind some
take_behind : {Item : Type 0} (size count : ℕ) (items more : List Item) → size ≡ length items + count → take size (items ++ more) ≡ items ++ take count more
take_behind size count [] more is = ap (λ each. take each more) (omega (arith, is))
take_behind zero count (item ∷ items) more is = absurd (omega (arith, is))
take_behind (suc size) count (item ∷ items) more is = ap (λ rest. item ∷ rest) (take_behind size count items more (omega (arith, is)))

take_just : {Item : Type 0} (size : ℕ) (items more : List Item) → size ≡ length items → take size (items ++ more) ≡ items
take_just size [] more is = ap (λ each. take each more) is
take_just zero (item ∷ items) more is = absurd (omega (arith, is))
take_just (suc size) (item ∷ items) more is = ap (λ rest. item ∷ rest) (take_just size items more (omega (arith, is)))

long_line : (line : List ℕ) → length (line ++ newline ∷ []) ≡ length line + 1
long_line line = length-append line (newline ∷ [])

-- the place behind so many lines
pub record IsFront (lines : List (List ℕ)) (rest : List ℕ) (count place end : ℕ) : Type 0 where
  pub size : ℕ
  pub at : end ≡ place + size
  pub front : take size (ended lines ++ rest) ≡ ended (take count lines)
  pub within : size ≤ length (ended lines)

front_at : (lines : List (List ℕ)) (rest : List ℕ) (index place end : ℕ) → slice_get (ends_from place lines) index ≡ Some end → IsFront lines rest (suc index) place end
front_at [] rest index place end is = absurd (cc is)
front_at (line ∷ lines) rest zero place end is =
    record {
      size = length line + 1;
      at = sym (same_Some (place + (length line + 1)) end is);
      front = ap (take (length line + 1)) (append_assoc (line ++ newline ∷ []) (ended lines) rest) ∙ take_just (length line + 1) (line ++ newline ∷ []) (ended lines ++ rest) (sym (long_line line)) ∙ sym (append-nil (line ++ newline ∷ []));
      within = omega (arith, length-append (line ++ newline ∷ []) (ended lines), long_line line);
    }
front_at (line ∷ lines) rest (suc index) place end is =
    let next = front_at lines rest index (place + (length line + 1)) end is in
    record {
      size = length line + 1 + next.size;
      at = next.at ∙ omega arith;
      front = ap (take (length line + 1 + next.size)) (append_assoc (line ++ newline ∷ []) (ended lines) rest) ∙ take_behind (length line + 1 + next.size) next.size (line ++ newline ∷ []) (ended lines ++ rest) (ap (λ long. long + next.size) (sym (long_line line))) ∙ ap (λ each. (line ++ newline ∷ []) ++ each) next.front;
      within = let few : next.size ≤ length (ended lines) = next.within in omega (arith, length-append (line ++ newline ∷ []) (ended lines), long_line line, few);
    }

-- the front of a text up to one of the places
pub front_of : (text ends : List ℕ) (are : AreEnds text ends) (index end : ℕ) → slice_get ends index ≡ Some end → (take end text ≡ ended (take (suc index) are.lines)) × (end ≤ length text)
front_of text ends are index end is =
    let front = front_at are.lines are.rest index 0 end (ap (λ each. slice_get each index) (sym are.are) ∙ is) in
    let at : end ≡ front.size = front.at ∙ omega arith in
    let within : front.size ≤ length (ended are.lines) = front.within in
    let long : length text ≡ length (ended are.lines) + length are.rest = ap length are.cut ∙ length-append (ended are.lines) are.rest in
    (ap (λ size. take size text) at ∙ ap (take front.size) are.cut ∙ front.front, omega (arith, at, within, long))

count_ends : (place : ℕ) (lines : List (List ℕ)) → length (ends_from place lines) ≡ length lines
count_ends place [] = refl
count_ends place (line ∷ lines) = ap suc (count_ends (place + (length line + 1)) lines)

pub ends_counted : (text ends : List ℕ) (are : AreEnds text ends) → length ends ≡ length are.lines
ends_counted text ends are = ap length are.are ∙ count_ends 0 are.lines

-- one more line
ends_more : (place : ℕ) (done : List (List ℕ)) (line : List ℕ) → ends_from place (done ++ line ∷ []) ≡ ends_from place done ++ (place + (length (ended done) + (length line + 1))) ∷ []
ends_more place [] line = ap (λ size. (place + size) ∷ []) (omega arith)
ends_more place (first ∷ done) line =
    ap (λ rest. (place + (length first + 1)) ∷ rest) (ends_more (place + (length first + 1)) done line
    ∙ ap (λ end. ends_from (place + (length first + 1)) done ++ end ∷ []) (omega (arith, length-append (first ++ newline ∷ []) (ended done), long_line first)))

ended_more : (done : List (List ℕ)) (line : List ℕ) → ended (done ++ line ∷ []) ≡ ended done ++ (line ++ newline ∷ [])
ended_more done line = flat_map-append (λ each. each ++ newline ∷ []) done (line ∷ []) ∙ ap (λ each. ended done ++ each) (append-nil (line ++ newline ∷ []))

-- lines that were found at the front of a text
pub record AreFound (text rest ends : List ℕ) : Type 0 where
  pub lines : List (List ℕ)
  pub whole : AllByRecursion (Lacks newline) lines
  pub cut : text ≡ ended lines ++ rest
  pub are : ends ≡ ends_from 0 lines

pub none_found : (text ends : List ℕ) → ends ≡ [] → AreFound text text ends
none_found text ends is = record { lines = []; whole = tt; cut = refl; are = is }

pub one_found : (text rest ends now line behind : List ℕ) (end : ℕ) (found : AreFound text rest ends) → Lacks newline line → rest ≡ line ++ newline ∷ behind → end + length behind ≡ length text → now ≡ ends ++ end ∷ []
    → AreFound text behind now
one_found text rest ends now line behind end found lacks cut place is =
    let whole : text ≡ ended (found.lines ++ line ∷ []) ++ behind =
    found.cut ∙ ap (λ each. ended found.lines ++ each) (cut ∙ sym (append_assoc line (newline ∷ []) behind)) ∙ sym (append_assoc (ended found.lines) (line ++ newline ∷ []) behind) ∙ ap (λ each. each ++ behind) (sym (ended_more found.lines line)) in
    let long : length text ≡ length (ended found.lines) + (length line + suc (length behind)) =
    ap length found.cut ∙ length-append (ended found.lines) rest ∙ ap (λ each. length (ended found.lines) + each) (ap length cut ∙ length-append line (newline ∷ behind)) in
    let at : end ≡ 0 + (length (ended found.lines) + (length line + 1)) = omega (arith, long, place) in
    record {
      lines = found.lines ++ line ∷ [];
      whole = all_more (Lacks newline) found.lines line found.whole lacks;
      cut = whole;
      are = is ∙ ap (λ each. each ++ end ∷ []) found.are ∙ ap (λ each. ends_from 0 found.lines ++ each ∷ []) at ∙ sym (ends_more 0 found.lines line);
    }

pub all_found : (text rest ends : List ℕ) (found : AreFound text rest ends) → Lacks newline rest → AreEnds text ends
all_found text rest ends found lacks = record { lines = found.lines; rest = rest; whole = found.whole; last = lacks; cut = found.cut; are = found.are }

pub place_of : (text rest ends line behind : List ℕ) → AreFound text rest ends → rest ≡ line ++ newline ∷ behind → (length text - length behind) + length behind ≡ length text
place_of text rest ends line behind found cut =
    let long : length text ≡ length (ended found.lines) + (length line + suc (length behind)) =
    ap length found.cut ∙ length-append (ended found.lines) rest ∙ ap (λ each. length (ended found.lines) + each) (ap length cut ∙ length-append line (newline ∷ behind)) in
    omega (arith, long)

-- halving: what is known at first, of one in the middle, and at last
pub all_fall : (text ends slice : List ℕ) → AreEnds text ends → slice ≡ ends → ¬ IsProgramText text → ¬ CanStand text (suc (length slice))
all_fall text ends slice are same none = subst (λ count. ¬ CanStand text (suc count)) (sym (ap length same ∙ ends_counted text ends are)) (end_falls text ends are none)

end_at : (text ends slice : List ℕ) (are : AreEnds text ends) (index : ℕ) → slice ≡ ends → index < length slice
    → (take (slice_index_or slice index 0) text ≡ ended (take (suc index) are.lines)) × (slice_index_or slice index 0 ≤ length text)
end_at text ends slice are index same within =
    front_of text ends are index (slice_index_or slice index 0) (ap (λ each. slice_get each index) (sym same) ∙ slice_get-get_or slice index 0 within)

few_lines : (text ends slice : List ℕ) (are : AreEnds text ends) (index : ℕ) → slice ≡ ends → index < length slice → suc index ≤ length are.lines
few_lines text ends slice are index same within =
    let long : length slice ≡ length are.lines = ap length same ∙ ends_counted text ends are in omega (arith, long, within)

pub end_within : (text ends slice : List ℕ) (are : AreEnds text ends) (index : ℕ) → slice ≡ ends → index < length slice → slice_index_or slice index 0 ≡ length (take (slice_index_or slice index 0) text)
end_within text ends slice are index same within = sym (length_take (slice_index_or slice index 0) text (end_at text ends slice are index same within).1)

pub middle_stands : (text ends slice : List ℕ) (are : AreEnds text ends) (index : ℕ) → slice ≡ ends → index < length slice → Begins (take (slice_index_or slice index 0) text) → CanStand text (suc index)
middle_stands text ends slice are index same within begins =
    front_stands text ends are (suc index) (few_lines text ends slice are index same within) (subst Begins (end_at text ends slice are index same within).0 begins)

pub middle_falls : ((program : Program) (count : ℕ) → IsProgram program → 0 < count → Close (take count (program_lines program)))
    → (text ends slice : List ℕ) (are : AreEnds text ends) (index : ℕ) → slice ≡ ends → index < length slice → ClosesNot (take (slice_index_or slice index 0) text) → ¬ CanStand text (suc index)
middle_falls close text ends slice are index same within none =
    front_falls close text ends are (suc index) (omega arith) (few_lines text ends slice are index same within) (subst ClosesNot (end_at text ends slice are index same within).0 none)

pub first_bad : (text : List ℕ) (stand fall : ℕ) → StandTo text stand → ¬ CanStand text (suc fall) → stand ≤ fall → fall ≤ stand → IsFirstBadLine text (stand + 1)
first_bad text stand fall stands falls below above =
    let same : suc fall ≡ stand + 1 = omega (arith, below, above) in
    record { bad = subst (λ count. ¬ CanStand text count) same falls; stand = λ before some few. stand_before text stand before some (omega (arith, few)) stands }
