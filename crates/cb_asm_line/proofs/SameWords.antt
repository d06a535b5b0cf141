-- A word of each kind says one thing.
use Rattle.std.proofs.Common.{◌≡◌, ◌≢◌, ◌∙◌, ap, sym, refl, subst, arith, codes, ℕ, ◌*◌, ◌/◌, ◌%◌, ◌<◌, ◌^◌, pow-suc, ℤ, w16, w32, FitsSigned, Bool, true, false, not, ◌&&◌, ◌==◌, if◌then◌else◌, List, [], ◌∷◌, length, drop, get_or, Option, Some, None, IfSome}
use Rattle.std.specs.List.{AllByRecursion, list_all}
use Rattle.std.proofs.lemmas.Bool.{eqb-false, eqb-true}
use Rattle.std.proofs.lemmas.Fmt.{decimal_injective}
use Rattle.cb_text.specs.Text.{AreUnits}
use Rattle.cb_asm_line.specs.Flags.{class_flags, field_flags, flags_word, joined, method_flags, plus, set_words}
use Rattle.cb_asm_line.specs.Inner.{Lacks, SpellUnits}
use Rattle.cb_asm_line.specs.Lines.{Word, same_text}
use Rattle.cb_asm_line.specs.Numbers.{decimal, signed_decimal}
use Rattle.cb_asm_line.specs.Quoting.{any_name, name_word, no_name}
use Rattle.cb_asm_line.specs.Spelling.{name_or}
use Rattle.cb_asm_line.proofs.Apart.{one_parting}
use Rattle.cb_asm_line.proofs.Distinct.{both, distinct, not_itself}
use Rattle.cb_asm_line.proofs.Inked.{each_one, one_more}
use Rattle.cb_asm_line.proofs.Signed.{short_fits, signed_same, wider}
use Rattle.cb_asm_line.proofs.Spelled.{name_same}
use Rattle.cb_asm_line.proofs.Units.{name_spelled, rest_spelled, units_one}

-- numbers
pub small_same : (one other : ℕ) → one < 2 ^ 16 → other < 2 ^ 16 → decimal one ≡ decimal other → one ≡ other
small_same one other fits suits is = decimal_injective one other (omega arith) (omega arith) is

pub byte_same : (one other : ℕ) → one < 2 ^ 8 → other < 2 ^ 8 → decimal one ≡ decimal other → one ≡ other
byte_same one other fits suits is = decimal_injective one other (omega arith) (omega arith) is

pub int_same : (one other : ℤ) → FitsSigned w32 one → FitsSigned w32 other → signed_decimal one ≡ signed_decimal other → one ≡ other
int_same one other fits suits is = signed_same one other (wider one fits) (wider other suits) is

pub short_same : (one other : ℤ) → FitsSigned w16 one → FitsSigned w16 other → signed_decimal one ≡ signed_decimal other → one ≡ other
short_same one other fits suits is = signed_same one other (short_fits one fits) (short_fits other suits) is

-- no name is what stands in place of one
not_dash : (name : List ℕ) → AreUnits name → no_name ≢ name_word name
not_dash name fits is =
    let spelled : SpellUnits false (name_word name) (codes "-") = subst (λ word. SpellUnits false word (codes "-")) is (rest_spelled (codes "-") (omega arith, tt)) in
    let same : name ≡ codes "-" = units_one false (name_word name) name (codes "-") (name_spelled name fits) spelled in
    let first : 45 ≡ 92 = ap (λ word. get_or word 0 0) (is ∙ ap name_word same) in omega (arith, first)

not_any : (name : List ℕ) → AreUnits name → any_name ≢ name_word name
not_any name fits is =
    let spelled : SpellUnits false (name_word name) (codes "any") = subst (λ word. SpellUnits false word (codes "any")) is (rest_spelled (codes "any") (omega arith, (omega arith, (omega arith, tt)))) in
    let same : name ≡ codes "any" = units_one false (name_word name) name (codes "any") (name_spelled name fits) spelled in
    let first : 97 ≡ 92 = ap (λ word. get_or word 0 0) (is ∙ ap name_word same) in omega (arith, first)

name_or_same : (none : Word) → ((name : List ℕ) → AreUnits name → none ≢ name_word name) → (one other : Option (List ℕ)) → IfSome one AreUnits → IfSome other AreUnits → name_or none one ≡ name_or none other → one ≡ other
name_or_same none apart None None fits suits is = refl
name_or_same none apart None (Some name) fits suits is = absurd (apart name suits is)
name_or_same none apart (Some name) None fits suits is = absurd (apart name fits (sym is))
name_or_same none apart (Some name) (Some other) fits suits is = ap Some (name_same name other fits suits is)

pub superclass_same : (one other : Option (List ℕ)) → IfSome one AreUnits → IfSome other AreUnits → name_or no_name one ≡ name_or no_name other → one ≡ other
superclass_same one other fits suits is = name_or_same no_name not_dash one other fits suits is

pub caught_same : (one other : Option (List ℕ)) → IfSome one AreUnits → IfSome other AreUnits → name_or any_name one ≡ name_or any_name other → one ≡ other
caught_same one other fits suits is = name_or_same any_name not_any one other fits suits is

-- flags: the words that are set tell the flags, where each word differs from the others
set_others : (test : Word → Bool) (words : List Word) (flags : ℕ) → list_all test words ≡ true → list_all test (set_words words flags) ≡ true
set_others test [] flags are = refl
set_others test (word ∷ words) flags are = by_test (flags % 2 == 1) (set_others test words (flags / 2) (each_one test word words are).1)
  where
    by_test : (odd : Bool) → list_all test (set_words words (flags / 2)) ≡ true → list_all test (if odd then word ∷ set_words words (flags / 2) else set_words words (flags / 2)) ≡ true
    by_test true rest = one_more test word (set_words words (flags / 2)) (each_one test word words are).0 rest
    by_test false rest = rest

not_first : (word : Word) (words set rest : List Word) → list_all (λ other. not (same_text word other)) set ≡ true → set ≢ word ∷ rest
not_first word words [] rest are is = absurd (cc is)
not_first word words (first ∷ set) rest are is = not_itself word first (let same : first ≡ word = cc is in sym same) (each_one (λ other. not (same_text word other)) first set are).0

half_fits : (word : Word) (words : List Word) (flags : ℕ) → flags < 2 ^ length (word ∷ words) → flags / 2 < 2 ^ length words
half_fits word words flags fits = let double : 2 ^ length (word ∷ words) ≡ 2 ^ length words * 2 = pow-suc 2 (length words) in omega (arith, fits, double)

set_same : (words : List Word) (one other : ℕ) → distinct words ≡ true → one < 2 ^ length words → other < 2 ^ length words → set_words words one ≡ set_words words other → one ≡ other
set_same [] one other apart fits suits is = let few : one < 2 ^ 0 = fits in let little : other < 2 ^ 0 = suits in omega (arith, few, little)
set_same (word ∷ words) one other apart fits suits is =
    by_test (one % 2 == 1) refl (other % 2 == 1) refl is (set_same words (one / 2) (other / 2) (parts apart).1 (half_fits word words one fits) (half_fits word words other suits))
  where
    parts : distinct (word ∷ words) ≡ true → (list_all (λ next. not (same_text word next)) words ≡ true) × (distinct words ≡ true)
    parts told = both (list_all (λ next. not (same_text word next)) words) (distinct words) told

    by_test : (odd : Bool) → (one % 2 == 1) ≡ odd → (uneven : Bool) → (other % 2 == 1) ≡ uneven
        → (if odd then word ∷ set_words words (one / 2) else set_words words (one / 2)) ≡ (if uneven then word ∷ set_words words (other / 2) else set_words words (other / 2))
        → (set_words words (one / 2) ≡ set_words words (other / 2) → one / 2 ≡ other / 2) → one ≡ other
    by_test true odd true uneven same rest =
        let half : one / 2 ≡ other / 2 = rest (ap (drop 1) same) in let first = eqb-true (one % 2) 1 odd in let second = eqb-true (other % 2) 1 uneven in omega (arith, half, first, second)
    by_test true odd false uneven same rest =
        absurd (not_first word words (set_words words (other / 2)) (set_words words (one / 2)) (set_others (λ next. not (same_text word next)) words (other / 2) (parts apart).0) (sym same))
    by_test false odd true uneven same rest =
        absurd (not_first word words (set_words words (one / 2)) (set_words words (other / 2)) (set_others (λ next. not (same_text word next)) words (one / 2) (parts apart).0) same)
    by_test false odd false uneven same rest =
        let half : one / 2 ≡ other / 2 = rest same in let first = eqb-false (one % 2) 1 odd in let second = eqb-false (other % 2) 1 uneven in omega (arith, half, first, second)

-- none of the words is that of no flags, and none has a unit that stands between two
abbrev pub is_flag : Word → Bool
is_flag word = list_all (λ unit. not (unit == plus)) word && not (same_text (codes "0") word)

lacks_plus : (word : Word) → list_all (λ unit. not (unit == plus)) word ≡ true → Lacks plus word
lacks_plus [] are = tt
lacks_plus (unit ∷ word) are = let told = each_one (λ each. not (each == plus)) unit word are in ((λ is. let first = told.0 in grind (arith, first, is)), lacks_plus word told.1)

each_lacks : (words : List Word) → list_all is_flag words ≡ true → AllByRecursion (Lacks plus) words
each_lacks [] are = tt
each_lacks (word ∷ words) are =
    let told = each_one is_flag word words are in (lacks_plus word (both (list_all (λ unit. not (unit == plus)) word) (not (same_text (codes "0") word)) told.0).0, each_lacks words told.1)

joined_same : (one other : List Word) → list_all is_flag one ≡ true → list_all is_flag other ≡ true → joined one ≡ joined other → one ≡ other
joined_same [] [] are have is = refl
joined_same [] (word ∷ other) are have is =
    let same : codes "0" ∷ [] ≡ word ∷ other = one_parting plus (codes "0" ∷ []) (word ∷ other) (λ none. absurd (cc none)) (λ none. absurd (cc none)) (lacks_plus (codes "0") refl, tt) (each_lacks (word ∷ other) have) is in
    absurd (not_itself (codes "0") word (cc same) (both (list_all (λ unit. not (unit == plus)) word) (not (same_text (codes "0") word)) (each_one is_flag word other have).0).1)
joined_same (word ∷ one) [] are have is =
    let same : word ∷ one ≡ codes "0" ∷ [] = one_parting plus (word ∷ one) (codes "0" ∷ []) (λ none. absurd (cc none)) (λ none. absurd (cc none)) (each_lacks (word ∷ one) are) (lacks_plus (codes "0") refl, tt) is in
    absurd (not_itself (codes "0") word (let first : word ≡ codes "0" = cc same in sym first) (both (list_all (λ unit. not (unit == plus)) word) (not (same_text (codes "0") word)) (each_one is_flag word one are).0).1)
joined_same (word ∷ one) (first ∷ other) are have is =
    one_parting plus (word ∷ one) (first ∷ other) (λ none. absurd (cc none)) (λ none. absurd (cc none)) (each_lacks (word ∷ one) are) (each_lacks (first ∷ other) have) is

flags_same : (words : List Word) (one other : ℕ) → length words ≡ 16 → distinct words ≡ true → list_all is_flag words ≡ true → one < 2 ^ 16 → other < 2 ^ 16 → flags_word words one ≡ flags_word words other → one ≡ other
flags_same words one other counted apart are fits suits is =
    set_same words one other apart (subst (λ count. one < 2 ^ count) (sym counted) fits) (subst (λ count. other < 2 ^ count) (sym counted) suits)
    (joined_same (set_words words one) (set_words words other) (set_others is_flag words one are) (set_others is_flag words other are) is)

pub class_flags_same : (one other : ℕ) → one < 2 ^ 16 → other < 2 ^ 16 → flags_word class_flags one ≡ flags_word class_flags other → one ≡ other
class_flags_same one other fits suits is = flags_same class_flags one other refl refl refl fits suits is

pub field_flags_same : (one other : ℕ) → one < 2 ^ 16 → other < 2 ^ 16 → flags_word field_flags one ≡ flags_word field_flags other → one ≡ other
field_flags_same one other fits suits is = flags_same field_flags one other refl refl refl fits suits is

pub method_flags_same : (one other : ℕ) → one < 2 ^ 16 → other < 2 ^ 16 → flags_word method_flags one ≡ flags_word method_flags other → one ≡ other
method_flags_same one other fits suits is = flags_same method_flags one other refl refl refl fits suits is
