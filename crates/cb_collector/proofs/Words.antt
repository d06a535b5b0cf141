-- Sums over the parts of a set, and what is known of all parts.
use Rattle.std.proofs.Common.{◌≡◌, ◌∙◌, ℕ, zero, suc, ◌+◌, ◌<◌, ◌≤◌, Bool, cond, List, [], ◌∷◌, length, map, get_or, set, refl, sym, ap, arith, inl, inr}
use Rattle.std.specs.List.{range_with_len, sum_by}
use Rattle.std.proofs.lemmas.Bool.{cases_eq}
use Rattle.std.proofs.lemmas.List.{ext_get_or, get_or-map, get_or-set_other, get_or-set_same, length-map, length-set}
use Rattle.std.proofs.lemmas.List.Sums.{sum_by-cons}
use Rattle.cb_dag.specs.Marks.{marked}
use Rattle.cb_collector.specs.Collecting.{words_in}

range_last : (f : ℕ → ℕ) (a n : ℕ) → sum_by f (range_with_len a (suc n)) ≡ sum_by f (range_with_len a n) + f (a + n)
range_last f a zero = let here : f (a + 0) ≡ f a = ap f (let e : a + 0 ≡ a = omega arith in e) in omega (arith, sum_by-cons f a (range_with_len (a + 1) 0), here)
range_last f a (suc n) =
    let here : f (a + 1 + n) ≡ f (a + suc n) = ap f (let e : a + 1 + n ≡ a + suc n = omega arith in e) in
    omega (arith, sum_by-cons f a (range_with_len (a + 1) (suc n)), sum_by-cons f a (range_with_len (a + 1) n), range_last f (a + 1) n, here)

pub words_more : (set : List Bool) (words : ℕ → ℕ) (n : ℕ) → words_in (n + 1) set words ≡ words_in n set words + cond (marked set n) (words n) 0
words_more set words n =
    let f : ℕ → ℕ = λ part. cond (marked set part) (words part) 0 in
    let next : sum_by f (range_with_len 0 (n + 1)) ≡ sum_by f (range_with_len 0 (suc n)) = ap (λ k. sum_by f (range_with_len 0 k)) (let e : n + 1 ≡ suc n = omega arith in e) in
    let here : f (0 + n) ≡ f n = ap f (let e : 0 + n ≡ n = omega arith in e) in
    omega (arith, next, range_last f 0 n, here)

-- sums whose terms are the same in all parts
pub words_alike : (set : List Bool) (words other : ℕ → ℕ) (n : ℕ) → ((part : ℕ) → part < n → words part ≡ other part) → words_in n set words ≡ words_in n set other
words_alike set words other zero each = refl
words_alike set words other (suc n) each =
    let next : (f : ℕ → ℕ) → words_in (suc n) set f ≡ words_in n set f + cond (marked set n) (f n) 0 = λ f. ap (λ k. words_in k set f) (let e : suc n ≡ n + 1 = omega arith in e) ∙ words_more set f n in
    let here : cond (marked set n) (words n) 0 ≡ cond (marked set n) (other n) 0 = ap (λ k. cond (marked set n) k 0) (each n (omega arith)) in
    omega (arith, next words, next other, here, words_alike set words other n (λ part below. each part (omega (arith, below))))

-- a loop that puts f of each item in its place
pub record DoneTo {X : Type 0} (f : X → X) (old now : List X) (i : ℕ) : Type 0 where
  pub long : length now ≡ length old
  pub done : (k : ℕ) → (d : X) → k < i → k < length old → get_or now k d ≡ f (get_or old k d)
  pub rest : (k : ℕ) → (d : X) → i ≤ k → get_or now k d ≡ get_or old k d

pub done_next : {X : Type 0} (f : X → X) (old now : List X) (i : ℕ) (x y : X) → DoneTo f old now i → i < length now → get_or now i x ≡ x → y ≡ f x → DoneTo f old (set now i y) (i + 1)
done_next {X} f old now i x y so below at is =
    record {
      long = length-set now i y ∙ so.long;
      done = λ k d low within. elim (cases_eq k i) [
        | inl same ↦
            let was : get_or old i d ≡ x = sym (so.rest i d (omega arith)) ∙ default_free now i d x below ∙ at in
            ap (λ j. get_or (set now i y) j d) same ∙ get_or-set_same now i y d below ∙ is ∙ ap f (sym was) ∙ ap (λ j. f (get_or old j d)) (sym same)
        | inr differs ↦ get_or-set_other now i k y d differs ∙ so.done k d (omega (arith, low, differs)) within
      ];
      rest = λ k d high. get_or-set_other now i k y d (omega (arith, high)) ∙ so.rest k d (omega (arith, high));
    }
  where
    default_free : {X : Type 0} (xs : List X) (i : ℕ) (d e : X) → i < length xs → get_or xs i d ≡ get_or xs i e
    default_free [] i d e below = absurd (omega (arith, below))
    default_free (x ∷ xs) zero d e below = refl
    default_free (x ∷ xs) (suc i) d e below = default_free xs i d e (omega (arith, below))

pub done_all : {X : Type 0} (f : X → X) (old now : List X) (i : ℕ) → DoneTo f old now i → length old ≤ i → (d : X) → now ≡ map f old
done_all {X} f old now i so all d =
    ext_get_or d now (map f old) (so.long ∙ sym (length-map old f)) (λ k below.
    let within : k < length old = omega (arith, below, so.long) in
    so.done k d (omega (arith, within, all)) within ∙ sym (get_or-map f old k d d within))

-- of all that is known, f has the same
pub map_alike : {X Y : Type 0} (f g : X → Y) (xs : List X) → ((i : ℕ) (d : X) → i < length xs → f (get_or xs i d) ≡ g (get_or xs i d)) → map f xs ≡ map g xs
map_alike f g [] each = refl
map_alike f g (x ∷ xs) each = ap (λ y. y ∷ map f xs) (each zero x (omega arith)) ∙ ap (λ ys. g x ∷ ys) (map_alike f g xs (λ i d below. each (suc i) d (omega (arith, below))))
