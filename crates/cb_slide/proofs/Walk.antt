-- Walking over the objects of a part.
use Rattle.std.proofs.Common.{◌≡◌, ◌∙◌, ℕ, zero, suc, ◌+◌, ◌-◌, ◌<◌, ◌≤◌, false, cond, List, length, take, refl, ap, arith, subst, inl, inr}
use Rattle.std.proofs.lemmas.Bool.{cases_lt, eq-eqb, le-ltb, lt-ltb, ne_eqb}
use Rattle.cb_plain.specs.State.{words_of}
use Rattle.cb_partheap.specs.Words.{is_whole_to, mark_at, missing, size_at}
use Rattle.cb_partheap.proofs.Laws.{gap, whole_next}
use Rattle.cb_slide.specs.Slid.{IsObject, begun, slid_to, words_if_kept}

-- what holds at the first object, and at each behind one where it holds, holds at all, and at the end
walk_on : (words : List ℕ) (P : ℕ → Type 0) (n : ℕ) → n ≤ length words → missing 0 (take n words) ≡ 0 → ((start : ℕ) → IsObject words start → start + words_of (size_at words start) ≤ n → P start → P (start + words_of (size_at words start))) →
    (fuel place : ℕ) → n ≤ place + fuel → place ≤ n → missing 0 (take place words) ≡ 0 → P place → P n
walk_on words P n inside whole step zero place enough low here so_far = subst P (let e : place ≡ n = omega (arith, enough, low) in e) so_far
walk_on words P n inside whole step (suc fuel) place enough low here so_far =
    elim (cases_lt place n) [
      | inr past ↦ subst P (let e : place ≡ n = omega (arith, past, low) in e) so_far
      | inl less ↦
          let end : place + words_of (size_at words place) ≤ n = gap words place n less inside here whole in
          let object : IsObject words place = record { inside = omega (arith, less, inside); whole = here } in
          walk_on words P n inside whole step fuel (place + words_of (size_at words place)) (omega (arith, enough)) end (whole_next words place (omega (arith, end, inside)) here) (step place object end so_far)
    ]

pub walk : (words : List ℕ) (P : ℕ → Type 0) (n : ℕ) → n ≤ length words → missing 0 (take n words) ≡ 0 → ((start : ℕ) → IsObject words start → start + words_of (size_at words start) ≤ n → P start → P (start + words_of (size_at words start))) → P 0 → P n
walk words P n inside whole step first = walk_on words P n inside whole step n 0 (omega arith) (omega arith) refl first

-- counts go up
pub begun_more : (words : List ℕ) (count : ℕ → ℕ) (n k m : ℕ) → m ≡ n + k → begun words count n ≤ begun words count m
begun_more words count n zero m is = subst (λ k. begun words count n ≤ begun words count k) (let e : n ≡ m = omega (arith, is) in e) (omega arith)
begun_more words count n (suc k) m is =
    let less = begun_more words count n k (n + k) refl in
    subst (λ j. begun words count n ≤ begun words count j) (let e : suc (n + k) ≡ m = omega (arith, is) in e) (omega (arith, less))

-- by the count of each object, behind it
begun_inner : (words : List ℕ) (count : ℕ → ℕ) (start k m : ℕ) → IsObject words start → m ≡ start + k → k < words_of (size_at words start) → start + words_of (size_at words start) ≤ length words → begun words count (suc m) ≡ begun words count start + count start
begun_inner words count start zero m object is less within =
    let same : start ≡ m = omega (arith, is) in
    subst (λ n. begun words count (suc n) ≡ begun words count start + count start) same
    (ap (λ b. begun words count start + cond b (count start) 0) (eq-eqb (missing 0 (take start words)) 0 object.whole))
begun_inner words count start (suc k) m object is less within =
    let before = begun_inner words count start k (start + k) object refl (omega (arith, less)) within in
    let none : is_whole_to words (suc (start + k)) ≡ false = ne_eqb (missing 0 (take (suc (start + k)) words)) 0
    (λ whole. absurd (omega (arith, less, gap words start (suc (start + k)) (omega arith) (omega (arith, less, within)) object.whole whole))) in
    subst (λ n. begun words count (suc n) ≡ begun words count start + count start) (let e : suc (start + k) ≡ m = omega (arith, is) in e)
    (let step : begun words count (suc (suc (start + k))) ≡ begun words count (suc (start + k)) = ap (λ b. begun words count (suc (start + k)) + cond b (count (suc (start + k))) 0) none ∙ (let z : begun words count (suc (start + k)) + 0 ≡ begun words count (suc (start + k)) = omega arith in z) in
    step ∙ before)

pub begun_next : (words : List ℕ) (count : ℕ → ℕ) (start : ℕ) → IsObject words start → start + words_of (size_at words start) ≤ length words → begun words count (start + words_of (size_at words start)) ≡ begun words count start + count start
begun_next words count start object within =
    ap (begun words count) (let e : start + words_of (size_at words start) ≡ suc (start + suc (suc (size_at words start))) = omega arith in e)
    ∙ begun_inner words count start (suc (suc (size_at words start))) (start + suc (suc (size_at words start))) object refl (omega arith) within

-- where the object behind one comes to begin
pub kept_next : (words : List ℕ) (start : ℕ) → IsObject words start → start + words_of (size_at words start) ≤ length words → 0 < mark_at words start → slid_to words (start + words_of (size_at words start)) ≡ slid_to words start + words_of (size_at words start)
kept_next words start object within kept =
    begun_next words (words_if_kept words) start object within ∙ ap (λ b. slid_to words start + cond b (words_of (size_at words start)) 0) (lt-ltb 0 (mark_at words start) kept)

pub gone_next : (words : List ℕ) (start : ℕ) → IsObject words start → start + words_of (size_at words start) ≤ length words → mark_at words start ≡ 0 → slid_to words (start + words_of (size_at words start)) ≡ slid_to words start
gone_next words start object within gone =
    begun_next words (words_if_kept words) start object within ∙ ap (λ b. slid_to words start + cond b (words_of (size_at words start)) 0) (le-ltb 0 (mark_at words start) (omega (arith, gone)))
    ∙ (let e : slid_to words start + 0 ≡ slid_to words start = omega arith in e)

-- none moves back
pub slid_low : (words : List ℕ) (n : ℕ) → n ≤ length words → missing 0 (take n words) ≡ 0 → slid_to words n ≤ n
slid_low words n inside whole =
    walk words (λ k. slid_to words k ≤ k) n inside whole
    (λ start object end low. elim (cases_lt 0 (mark_at words start)) [
      | inl kept ↦ omega (arith, low, kept_next words start object (omega (arith, end, inside)) kept)
      | inr gone ↦ omega (arith, low, gone_next words start object (omega (arith, end, inside)) (omega (arith, gone)))
    ]) (omega arith)

-- a marked object ends before all marked ones behind it, and before the end
pub slid_before : (words : List ℕ) (start n : ℕ) → IsObject words start → 0 < mark_at words start → start < n → n ≤ length words → missing 0 (take n words) ≡ 0 → slid_to words start + words_of (size_at words start) ≤ slid_to words n
slid_before words start n object kept less inside whole =
    let end = gap words start n less inside object.whole whole in
    omega (arith, kept_next words start object (omega (arith, end, inside)) kept, begun_more words (words_if_kept words) (start + words_of (size_at words start)) (n - (start + words_of (size_at words start))) n (omega (arith, end)))
