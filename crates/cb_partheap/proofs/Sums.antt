-- Sums over numbers from one on, and over the objects that are kept in parts.
use Rattle.std.proofs.Common.{◌≡◌, ◌∙◌, ℕ, zero, suc, ◌+◌, ◌*◌, ◌<◌, ◌≤◌, ◌==◌, Bool, true, false, List, [], ◌∷◌, Option, Some, None, cond, slice_get, refl, ap, arith, inl, inr}
use Rattle.std.specs.List.{range_with_len, sum_by}
use Rattle.std.proofs.lemmas.Bool.{cases_eq, eq-eqb}
use Rattle.std.proofs.lemmas.List.Sums.{sum_by-cons}
use Rattle.cb_plain.specs.State.{Object}
use Rattle.cb_dag.specs.Marks.{marked}
use Rattle.cb_heap.specs.Kept.{entry_words}
use Rattle.cb_heap.specs.Occupancy.{used}
use Rattle.cb_partheap.proofs.Rooms.{range_same}

-- terms that are none, and that are no more
pub range_none : (f : ℕ → ℕ) (a n : ℕ) → ((p : ℕ) → f p ≡ 0) → sum_by f (range_with_len a n) ≡ 0
range_none f a zero each = refl
range_none f a (suc n) each = omega (arith, sum_by-cons f a (range_with_len (a + 1) n), each a, range_none f (a + 1) n each)

pub range_times : (f g : ℕ → ℕ) (a n m : ℕ) → ((p : ℕ) → f p ≤ m * g p) → sum_by f (range_with_len a n) ≤ m * sum_by g (range_with_len a n)
range_times f g a zero m each = omega arith
range_times f g a (suc n) m each = omega (arith, sum_by-cons f a (range_with_len (a + 1) n), ap (λ k. m * k) (sum_by-cons g a (range_with_len (a + 1) n)), each a, range_times f g (a + 1) n m each)

-- one of two terms each, and a term of them
range_both : (f g : ℕ → ℕ) (a n : ℕ) → sum_by (λ p. f p + g p) (range_with_len a n) ≡ sum_by f (range_with_len a n) + sum_by g (range_with_len a n)
range_both f g a zero = refl
range_both f g a (suc n) =
    omega (
      arith,
      sum_by-cons (λ p. f p + g p) a (range_with_len (a + 1) n),
      sum_by-cons f a (range_with_len (a + 1) n),
      sum_by-cons g a (range_with_len (a + 1) n),
      range_both f g (a + 1) n,
    )

pub range_term : (f : ℕ → ℕ) (a n q : ℕ) → a ≤ q → q < a + n → f q ≤ sum_by f (range_with_len a n)
range_term f a zero q low high = absurd (omega (arith, low, high))
range_term f a (suc n) q low high =
    elim (cases_eq q a) [
      | inl same ↦ omega (arith, sum_by-cons f a (range_with_len (a + 1) n), ap f same)
      | inr differs ↦ omega (arith, sum_by-cons f a (range_with_len (a + 1) n), range_term f (a + 1) n q (omega (arith, low, differs)) (omega (arith, high)))
    ]

-- the words of an object are among those of its part
abbrev words_in : (ℕ → ℕ) → ℕ → Option Object → ℕ
words_in part_of part None = 0
words_in part_of part (Some object) = cond (part_of object.site == part) (entry_words (Some object)) 0

abbrev pub LiesBelow : (ℕ → ℕ) → ℕ → List (Option Object) → Type 0
LiesBelow part_of count entries = (k : ℕ) → (object : Object) → slice_get entries k ≡ Some (Some object) → part_of object.site < count

entry_spread : (part_of : ℕ → ℕ) (count : ℕ) (entry : Option Object) → ((object : Object) → entry ≡ Some object → part_of object.site < count) →
    entry_words entry ≤ sum_by (λ part. words_in part_of part entry) (range_with_len 0 count)
entry_spread part_of count None below = omega arith
entry_spread part_of count (Some object) below =
    let here : words_in part_of (part_of object.site) (Some object) ≡ entry_words (Some object) =
    ap (λ b. cond b (entry_words (Some object)) 0) (eq-eqb (part_of object.site) (part_of object.site) refl) in
    omega (arith, here, range_term (λ part. words_in part_of part (Some object)) 0 count (part_of object.site) (omega arith) (omega (arith, below object refl)))

-- so that those of all objects are among those of all parts
pub spread : (part_of : ℕ → ℕ) (count : ℕ) (entries : List (Option Object)) → LiesBelow part_of count entries → sum_by entry_words entries ≤ sum_by (used part_of entries) (range_with_len 0 count)
spread part_of count [] below = omega arith
spread part_of count (entry ∷ entries) below =
    let split : sum_by (used part_of (entry ∷ entries)) (range_with_len 0 count) ≡ sum_by (λ part. words_in part_of part entry + used part_of entries part) (range_with_len 0 count) =
    range_same (λ part. words_in part_of part entry + used part_of entries part) (used part_of (entry ∷ entries)) 0 count (λ part low high. sum_by-cons (words_in part_of part) entry entries) in
    omega (
      arith,
      sum_by-cons entry_words entry entries,
      split,
      range_both (λ part. words_in part_of part entry) (used part_of entries) 0 count,
      entry_spread part_of count entry (λ object is. below 0 object (ap Some is)),
      spread part_of count entries (λ k object is. below (suc k) object is),
    )

-- and those of objects in the parts of a set among those of these parts
abbrev pub words_there : (ℕ → ℕ) → List Bool → Option Object → ℕ
words_there part_of set None = 0
words_there part_of set (Some object) = cond (marked set (part_of object.site)) (entry_words (Some object)) 0

abbrev words_of_part : (ℕ → ℕ) → List Bool → Option Object → ℕ → ℕ
words_of_part part_of set entry part = cond (marked set part) (words_in part_of part entry) 0

entry_there : (part_of : ℕ → ℕ) (set : List Bool) (count : ℕ) (entry : Option Object) → ((object : Object) → entry ≡ Some object → part_of object.site < count) →
    words_there part_of set entry ≤ sum_by (words_of_part part_of set entry) (range_with_len 0 count)
entry_there part_of set count None below = omega arith
entry_there part_of set count (Some object) below =
    let here : words_of_part part_of set (Some object) (part_of object.site) ≡ words_there part_of set (Some object) =
    ap (λ b. cond (marked set (part_of object.site)) (cond b (entry_words (Some object)) 0) 0) (eq-eqb (part_of object.site) (part_of object.site) refl) in
    omega (arith, here, range_term (words_of_part part_of set (Some object)) 0 count (part_of object.site) (omega arith) (omega (arith, below object refl)))

cond_both : (mark : Bool) (one other : ℕ) → cond mark (one + other) 0 ≡ cond mark one 0 + cond mark other 0
cond_both true one other = refl
cond_both false one other = refl

pub spread_there : (part_of : ℕ → ℕ) (set : List Bool) (count : ℕ) (entries : List (Option Object)) → LiesBelow part_of count entries →
    sum_by (words_there part_of set) entries ≤ sum_by (λ part. cond (marked set part) (used part_of entries part) 0) (range_with_len 0 count)
spread_there part_of set count [] below = omega arith
spread_there part_of set count (entry ∷ entries) below =
    let rest : ℕ → ℕ = λ part. cond (marked set part) (used part_of entries part) 0 in
    let all : ℕ → ℕ = λ part. cond (marked set part) (used part_of (entry ∷ entries) part) 0 in
    let split : sum_by all (range_with_len 0 count) ≡ sum_by (λ part. words_of_part part_of set entry part + rest part) (range_with_len 0 count) =
    range_same (λ part. words_of_part part_of set entry part + rest part) all 0 count
    (λ part low high. ap (λ n. cond (marked set part) n 0) (sum_by-cons (words_in part_of part) entry entries) ∙ cond_both (marked set part) (words_in part_of part entry) (used part_of entries part)) in
    omega (
      arith,
      sum_by-cons (words_there part_of set) entry entries,
      split,
      range_both (words_of_part part_of set entry) rest 0 count,
      entry_there part_of set count entry (λ object is. below 0 object (ap Some is)),
      spread_there part_of set count entries (λ k object is. below (suc k) object is),
    )
