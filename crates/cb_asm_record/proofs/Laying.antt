-- Labels and their places, line by line.
use Rattle.std.proofs.Common.{◌≡◌, ◌≢◌, ◌∙◌, ap, sym, refl, subst, arith, ℕ, zero, suc, ◌+◌, ◌<◌, ◌≤◌, ◌^◌, Bool, true, false, cond, List, [], ◌∷◌, ◌++◌, Option, Some, None, if◌then◌else◌, append_assoc, append-nil, length, take, drop, get_or, IsSome, is_some, unwrap_or, Result, Ok, Err, MatchResult}
use Rattle.std.specs.BTreeMap.{BTreeMap, get_by}
use Rattle.std.specs.List.{AllByRecursion, AllPairs}
use Rattle.std.specs.Cmp.Lexicographic.{slice_cmp}
use Rattle.std.specs.Ordering.{nat_cmp}
use Rattle.std.proofs.lemmas.List.Quantifiers.{all_pairs_push}
use denote.Ref.{Bor}
use Rattle.cb_asm_line.specs.declared.operand.Instruction.{Instruction}
use Rattle.cb_asm_line.specs.declared.program.CodeLine.{CodeLine}
use Rattle.cb_asm_line.specs.declared.program.CodeLine.TheVariants.{Here, Do}
use Rattle.cb_asm_line.specs.Label.{Label}
use Rattle.cb_asm_line.specs.Lines.{same_text}
use Rattle.cb_asm_record.specs.declared.stop.Stop.{Stop}
use Rattle.cb_asm_record.specs.Grammar.{HasLabel}
use Rattle.cb_asm_record.specs.Inner.{AreAstray, AreAt, AreWalked, Gives, IsLaid, Makes, Refuses, behind, end_from}
use Rattle.cb_asm_record.specs.Labels.{labels_from, place_at, place_in, place_of, size_at}
use Rattle.cb_asm_record.proofs.Alls.{all_back}
use Rattle.cb_asm_record.proofs.Turns.{all_at, at_turn, take_past}
use Rattle.cb_asm_record.proofs.Pooling.{text_is, text_itself}

pub end_both : (pc : ℕ) (one other : List CodeLine) → end_from pc (one ++ other) ≡ end_from (end_from pc one) other
end_both pc [] other = refl
end_both pc (line ∷ one) other = end_both (behind pc line) one other

behind_grows : (pc : ℕ) (line : CodeLine) → pc ≤ behind pc line
behind_grows pc (Here label) = omega arith
behind_grows pc (Do instruction) = omega arith

pub end_grows : (pc : ℕ) (lines : List CodeLine) → pc ≤ end_from pc lines
end_grows pc [] = omega arith
end_grows pc (line ∷ lines) = let first = behind_grows pc line in let rest = end_grows (behind pc line) lines in omega (arith, first, rest)

pub labels_both : (pc : ℕ) (one other : List CodeLine) → labels_from pc (one ++ other) ≡ labels_from pc one ++ labels_from (end_from pc one) other
labels_both pc [] other = refl
labels_both pc (Here label ∷ one) other = ap (λ rest. (label, pc) ∷ rest) (labels_both pc one other)
labels_both pc (Do instruction ∷ one) other = labels_both (pc + size_at pc instruction) one other

-- a label that wasn't there stands last
place_last : (labels : List (Label × ℕ)) (label other : Label) (place : ℕ) → place_in labels label ≡ None
    → place_in (labels ++ (label, place) ∷ []) other ≡ cond (same_text label other) (Some place) (place_in labels other)
place_last [] label other place new = refl
place_last (first ∷ labels) label other place new =
    by_test (same_text first.0 other) refl (same_text first.0 label) refl new (place_last labels label other place)
  where
    by_test : (is : Bool) → same_text first.0 other ≡ is → (first_is : Bool) → same_text first.0 label ≡ first_is → (if first_is then Some first.1 else place_in labels label) ≡ None
        → (place_in labels label ≡ None → place_in (labels ++ (label, place) ∷ []) other ≡ cond (same_text label other) (Some place) (place_in labels other))
        → (if is then Some first.1 else place_in (labels ++ (label, place) ∷ []) other) ≡ cond (same_text label other) (Some place) (if is then Some first.1 else place_in labels other)
    by_test is told true first_told new rest = absurd cc
    by_test false told false first_told new rest = rest new
    by_test true told false first_told new rest = apart (same_text label other) refl
      where
        apart : (test : Bool) → same_text label other ≡ test → Some first.1 ≡ cond test (Some place) (Some first.1)
        apart false is = refl
        apart true is =
            let one : first.0 ≡ label = text_is first.0 other told ∙ sym (text_is label other is) in
            absurd (let same : same_text first.0 label ≡ true = subst (λ text. same_text first.0 text ≡ true) one (text_itself first.0) in cc)

apart : (labels : List (Label × ℕ)) (label : Label) → place_in labels label ≡ None → AllByRecursion (λ one. one.0 ≢ label) labels
apart [] label new = tt
apart (first ∷ labels) label new = by_test (same_text first.0 label) refl new (apart labels label)
  where
    by_test : (is : Bool) → same_text first.0 label ≡ is → (if is then Some first.1 else place_in labels label) ≡ None
        → (place_in labels label ≡ None → AllByRecursion (λ one. one.0 ≢ label) labels) → (first.0 ≢ label) × AllByRecursion (λ one. one.0 ≢ label) labels
    by_test true told new rest = absurd cc
    by_test false told new rest = (λ one. let same : same_text first.0 label ≡ true = subst (λ text. same_text first.0 text ≡ true) one (text_itself first.0) in cc, rest new)

-- pairs of a list, by its first item
all_by_place : {Item : Type 0} (P : Item → Type 0) (items : List Item) → ((place : ℕ) (d : Item) → place < length items → P (get_or items place d)) → AllByRecursion P items
all_by_place P [] each = tt
all_by_place P (item ∷ items) each = (each zero item (omega arith), all_by_place P items (λ place d below. each (suc place) d (omega arith)))

pairs_first : {Item : Type 0} (R : Item → Item → Type 0) (first : Item) (items : List Item) → AllPairs R (first ∷ items) → AllByRecursion (R first) items
pairs_first R first items all = all_by_place (R first) items (λ place d below. all zero (suc place) d (omega arith) (omega arith))

pairs_behind : {Item : Type 0} (R : Item → Item → Type 0) (first : Item) (items : List Item) → AllPairs R (first ∷ items) → AllPairs R items
pairs_behind R first items all = λ i j d before below. all (suc i) (suc j) d (omega arith) (omega arith)

once_more : (labels : List (Label × ℕ)) (label : Label) (place : ℕ) → AllPairs (λ one other. one.0 ≢ other.0) labels → place_in labels label ≡ None
    → AllPairs (λ one other. one.0 ≢ other.0) (labels ++ (label, place) ∷ [])
once_more labels label place once new =
    all_pairs_push (λ one other. one.0 ≢ other.0) labels (label, place) once (λ k d below. all_at (λ one. one.0 ≢ label) labels k d below (apart labels label new))

-- where labels stand once, one that follows wasn't there
new_there : (labels : List (Label × ℕ)) (label : Label) (place : ℕ) (rest : List (Label × ℕ))
    → AllPairs (λ one other. one.0 ≢ other.0) (labels ++ (label, place) ∷ rest) → place_in labels label ≡ None
new_there [] label place rest once = refl
new_there (first ∷ labels) label place rest once =
    by_test (same_text first.0 label) refl
    (new_there labels label place rest (pairs_behind (λ one other. one.0 ≢ other.0) first (labels ++ (label, place) ∷ rest) once))
    (all_back (λ other. first.0 ≢ other.0) labels ((label, place) ∷ rest) (pairs_first (λ one other. one.0 ≢ other.0) first (labels ++ (label, place) ∷ rest) once)).0
  where
    by_test : (is : Bool) → same_text first.0 label ≡ is → place_in labels label ≡ None → first.0 ≢ label → (if is then Some first.1 else place_in labels label) ≡ None
    by_test true told next differs = absurd (differs (text_is first.0 label told))
    by_test false told next differs = next

-- a label that is set
pub at_more : (labels : List (Label × ℕ)) (label : Label) (place : ℕ) (places later : BTreeMap (Bor (List ℕ)) ℕ) → AreAt labels places → place_in labels label ≡ None
    → ((other : Label) → get_by (λ key. slice_cmp nat_cmp other key.now) later ≡ cond (same_text label other) (Some place) (get_by (λ key. slice_cmp nat_cmp other key.now) places))
    → AreAt (labels ++ (label, place) ∷ []) later
at_more labels label place places later at new updates = λ other.
    updates other ∙ ap (λ rest. cond (same_text label other) (Some place) rest) (at other) ∙ sym (place_last labels label other place new)

-- the lines with a label more, and with an instruction more
pub walked_label : (lines : List CodeLine) (places later : BTreeMap (Bor (List ℕ)) ℕ) (pc : ℕ) (label : Label) → AreWalked lines places pc
    → AreAt (labels_from 0 lines ++ (label, pc) ∷ []) later → place_in (labels_from 0 lines) label ≡ None → AreWalked (lines ++ Here label ∷ []) later pc
walked_label lines places later pc label walked at new =
    let labels : labels_from 0 (lines ++ Here label ∷ []) ≡ labels_from 0 lines ++ (label, pc) ∷ [] =
    labels_both 0 lines (Here label ∷ []) ∙ ap (λ place. labels_from 0 lines ++ (label, place) ∷ []) (sym walked.place) in
    record {
      mapped = subst (λ all. AreAt all later) (sym labels) at;
      once = subst (AllPairs (λ one other. one.0 ≢ other.0)) (sym labels) (once_more (labels_from 0 lines) label pc walked.once new);
      place = walked.place ∙ sym (end_both 0 lines (Here label ∷ []));
      few = walked.few;
    }

pub walked_instruction : (lines : List CodeLine) (places : BTreeMap (Bor (List ℕ)) ℕ) (pc next : ℕ) (instruction : Instruction) → AreWalked lines places pc
    → Gives (behind pc (Do instruction)) (behind pc (Do instruction) < 2 ^ 16) next → AreWalked (lines ++ Do instruction ∷ []) places next
walked_instruction lines places pc next instruction walked gives =
    let labels : labels_from 0 (lines ++ Do instruction ∷ []) ≡ labels_from 0 lines = labels_both 0 lines (Do instruction ∷ []) ∙ append-nil (labels_from 0 lines) in
    record {
      mapped = subst (λ all. AreAt all places) (sym labels) walked.mapped;
      once = subst (AllPairs (λ one other. one.0 ≢ other.0)) (sym labels) walked.once;
      place = gives.is ∙ ap (λ place. behind place (Do instruction)) walked.place ∙ sym (end_both 0 lines (Do instruction ∷ []));
      few = subst (λ place. place < 2 ^ 16) (sym gives.is) gives.asked;
    }

-- a label that was there, and an instruction that ends too far
pub astray_label : (lines : List CodeLine) (label : Label) (stop : Stop) → Refuses (place_in (labels_from 0 lines) label ≡ None) stop → AreAstray (lines ++ Here label ∷ []) stop
astray_label lines label stop refused = λ stopped rest laid.
    let all : (lines ++ Here label ∷ []) ++ rest ≡ lines ++ (Here label ∷ rest) = append_assoc lines (Here label ∷ []) rest in
    let once = subst (λ code. AllPairs (λ one other. one.0 ≢ other.0) (labels_from 0 code)) all laid.once in
    refused stopped (new_there (labels_from 0 lines) label (end_from 0 lines) (labels_from (end_from 0 lines) rest)
    (subst (AllPairs (λ one other. one.0 ≢ other.0)) (labels_both 0 lines (Here label ∷ rest)) once))

pub astray_end : (lines : List CodeLine) (line : CodeLine) (pc : ℕ) (stop : Stop) → pc ≡ end_from 0 lines → Refuses (behind pc line < 2 ^ 16) stop → AreAstray (lines ++ line ∷ []) stop
astray_end lines line pc stop at refused = λ stopped rest laid.
    let ends : end_from 0 ((lines ++ line ∷ []) ++ rest) ≡ end_from (behind pc line) rest =
    ap (end_from 0) (append_assoc lines (line ∷ []) rest) ∙ end_both 0 lines (line ∷ rest) ∙ ap (λ place. end_from (behind place line) rest) (sym at) in
    refused stopped (let short = laid.short in let grows = end_grows (behind pc line) rest in omega (arith, ends, short, grows))

pub walked_or_astray : (lines : List CodeLine) (places : BTreeMap (Bor (List ℕ)) ℕ) (pc : ℕ) (instruction : Instruction) (result : Result ℕ Stop) → AreWalked lines places pc
    → Makes (behind pc (Do instruction)) (behind pc (Do instruction) < 2 ^ 16) result → MatchResult result (AreWalked (lines ++ Do instruction ∷ []) places) (AreAstray (lines ++ Do instruction ∷ []))
walked_or_astray lines places pc instruction (Ok next) walked is = walked_instruction lines places pc next instruction walked is
walked_or_astray lines places pc instruction (Err stop) walked is = astray_end lines (Do instruction) pc stop walked.place is

pub astray_turn : (lines : List CodeLine) (i : ℕ) (line : CodeLine) (stop : Stop) → i < length lines → line ≡ get_or lines i line → AreAstray (take i lines ++ line ∷ []) stop → Refuses (IsLaid lines) stop
astray_turn lines i line stop below is astray = λ stopped laid.
    astray stopped (drop (i + 1) lines) (subst (λ one. IsLaid ((take i lines ++ one ∷ []) ++ drop (i + 1) lines)) (sym is) (subst IsLaid (at_turn lines i line below) laid))

pub walked_all : (lines : List CodeLine) (i : ℕ) (places : BTreeMap (Bor (List ℕ)) ℕ) (pc : ℕ) → length lines ≤ i → AreWalked (take i lines) places pc → AreAt (labels_from 0 lines) places × IsLaid lines
walked_all lines i places pc past before =
    let walked = subst (λ all. AreWalked all places pc) (take_past lines i past) before in
    (walked.mapped, record { once = walked.once; short = subst (λ place. place < 2 ^ 16) walked.place walked.few })

-- the place of a label
pub place_found : (lines : List CodeLine) (places : BTreeMap (Bor (List ℕ)) ℕ) (label : Label) (place : ℕ) → AreAt (labels_from 0 lines) places
    → Some place ≡ get_by (λ key. slice_cmp nat_cmp label key.now) places → Gives (place_at lines label) (HasLabel lines label) place
place_found lines places label place at is =
    let found : Some place ≡ place_of lines label = is ∙ at label in
    record { is = ap (λ one. unwrap_or one 0) found; asked = subst IsSome found refl }

pub place_missing : (lines : List CodeLine) (places : BTreeMap (Bor (List ℕ)) ℕ) (label : Label) → AreAt (labels_from 0 lines) places
    → None ≡ get_by (λ key. slice_cmp nat_cmp label key.now) places → ¬ HasLabel lines label
place_missing lines places label at is = λ has. let none : IsSome {T = ℕ} None = subst IsSome (sym (is ∙ at label)) has in absurd cc

-- what the map had for a label
pub found_at : (labels : List (Label × ℕ)) (text : Bor (List ℕ)) (label : Label) (places : BTreeMap (Bor (List ℕ)) ℕ) (found : Option ℕ) → AreAt labels places → text.now ≡ label
    → found ≡ get_by (λ key. slice_cmp nat_cmp text.now key.now) places → place_in labels label ≡ found
found_at labels text label places found at same is = sym (at label) ∙ ap (λ one. get_by (λ key. slice_cmp nat_cmp one key.now) places) (sym same) ∙ sym is

pub set_at : (labels : List (Label × ℕ)) (text : Bor (List ℕ)) (label : Label) (place : ℕ) (places later : BTreeMap (Bor (List ℕ)) ℕ) → AreAt labels places → text.now ≡ label → place_in labels label ≡ None
    → ((other : Label) → get_by (λ key. slice_cmp nat_cmp other key.now) later ≡ cond (same_text text.now other) (Some place) (get_by (λ key. slice_cmp nat_cmp other key.now) places))
    → AreAt (labels ++ (label, place) ∷ []) later × place_in labels label ≡ None
set_at labels text label place places later at same new updates =
    (at_more labels label place places later at new (subst (λ one. (other : Label) → get_by (λ key. slice_cmp nat_cmp other key.now) later ≡ cond (same_text one other) (Some place) (get_by (λ key. slice_cmp nat_cmp other key.now) places)) same updates), new)

pub none_of : (found : Option ℕ) → is_some found ≡ false → found ≡ None
none_of None is = refl
none_of (Some place) is = absurd cc

pub some_of : (found : Option ℕ) → is_some found ≡ true → ¬ (found ≡ None)
some_of None is = absurd cc
some_of (Some place) is = λ none. absurd cc
