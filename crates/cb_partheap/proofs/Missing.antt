-- Objects that stand one behind the other in the words of a part.
use Rattle.std.proofs.Common.{◌≡◌, ◌≢◌, ◌∙◌, ℕ, zero, suc, ◌+◌, ◌/◌, ◌^◌, ◌<◌, ◌≤◌, List, [], ◌∷◌, ◌++◌, length, get_or, set, take, drop, replicate, refl, sym, ap, arith}
use Rattle.std.proofs.lemmas.List.{drop_more, get_or-take, length-drop, length-take-le, take-append-drop, take-take}
use Rattle.cb_plain.specs.State.{words_of}
use Rattle.cb_partheap.specs.Words.{missing, size_at}

pub missing_append : (count : ℕ) (xs ys : List ℕ) → missing count (xs ++ ys) ≡ missing (missing count xs) ys
missing_append count [] ys = refl
missing_append zero (x ∷ xs) ys = missing_append (suc (suc (x / 2 ^ 32))) xs ys
missing_append (suc count) (x ∷ xs) ys = missing_append count xs ys

pub missing_least : (count : ℕ) (xs : List ℕ) → missing count xs ≡ 0 → count ≤ length xs
missing_least count [] none = omega (arith, none)
missing_least zero (x ∷ xs) none = omega arith
missing_least (suc count) (x ∷ xs) none = omega (arith, missing_least count xs none)

-- an object that begins before a place behind whole ones ends there or before
pub gap : (words : List ℕ) (one other : ℕ) → one < other → other ≤ length words → missing 0 (take one words) ≡ 0 → missing 0 (take other words) ≡ 0 → one + words_of (size_at words one) ≤ other
gap words one other before within first second =
    let front : List ℕ = take other words in
    let long : length front ≡ other = length-take-le other words within in
    let split : take one words ++ get_or words one 0 ∷ drop (one + 1) front ≡ front =
    ap (λ xs. xs ++ get_or words one 0 ∷ drop (one + 1) front) (sym (take-take one other words (omega arith)))
    ∙ ap (λ x. take one front ++ x ∷ drop (one + 1) front) (sym (get_or-take other words one 0 before))
    ∙ ap (λ xs. take one front ++ xs) (sym (drop_more front one 0 (omega (arith, long)))) ∙ take-append-drop one front in
    let rest : missing (suc (suc (size_at words one))) (drop (one + 1) front) ≡ 0 =
    ap (λ n. missing n (get_or words one 0 ∷ drop (one + 1) front)) (sym first) ∙ sym (missing_append 0 (take one words) (get_or words one 0 ∷ drop (one + 1) front)) ∙ ap (missing 0) split ∙ second in
    omega (arith, missing_least (suc (suc (size_at words one))) (drop (one + 1) front) rest, length-drop (one + 1) front, long)

-- another word where no object begins leaves all as it was
pub missing_set : (count : ℕ) (xs : List ℕ) (i v place : ℕ) → missing count (take i xs) ≢ 0 → missing count (take place (set xs i v)) ≡ missing count (take place xs)
missing_set count [] i v place inner = refl
missing_set count (x ∷ xs) i v zero inner = refl
missing_set zero (x ∷ xs) zero v (suc place) inner = absurd (inner refl)
missing_set (suc count) (x ∷ xs) zero v (suc place) inner = refl
missing_set zero (x ∷ xs) (suc i) v (suc place) inner = missing_set (suc (suc (x / 2 ^ 32))) xs i v place inner
missing_set (suc count) (x ∷ xs) (suc i) v (suc place) inner = missing_set count xs i v place inner

pub missing_zeros : (count : ℕ) → missing count (replicate count 0) ≡ 0
missing_zeros zero = refl
missing_zeros (suc count) = missing_zeros count
