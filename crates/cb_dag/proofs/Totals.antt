-- Sums over the numbers below one.
use Rattle.std.proofs.Common.{◌≡◌, ◌≢◌, ◌∙◌, ap, refl, arith, ℕ, zero, suc, ◌+◌, ◌<◌, ◌≤◌, Bool, true, false, List, [], ◌∷◌, length, get_or, not}
use Rattle.std.specs.List.{sum_by}
use Rattle.std.proofs.lemmas.List.Sums.{sum_by-cons}

abbrev pub total : ℕ → (ℕ → ℕ) → ℕ
total zero f = 0
total (suc n) f = f 0 + total n (λ k. f (suc k))

abbrev pub when : Bool → ℕ → ℕ
when true x = x
when false x = 0

pub total-zero : (n : ℕ) (f : ℕ → ℕ) → ((k : ℕ) → k < n → f k ≡ 0) → ◌≡◌ {A = ℕ} (total n f) 0
total-zero zero f none = refl
total-zero (suc n) f none =
    let first : f 0 ≡ 0 = none 0 (omega arith) in
    let rest : ◌≡◌ {A = ℕ} (total n (λ k. f (suc k))) 0 = total-zero n (λ k. f (suc k)) (λ k within. none (suc k) (omega (arith, within))) in
    omega (arith, first, rest)

pub total-same : (n : ℕ) (f g : ℕ → ℕ) → ((k : ℕ) → k < n → f k ≡ g k) → total n f ≡ total n g
total-same zero f g same = refl
total-same (suc n) f g same =
    let first : f 0 ≡ g 0 = same 0 (omega arith) in
    let rest : total n (λ k. f (suc k)) ≡ total n (λ k. g (suc k)) = total-same n (λ k. f (suc k)) (λ k. g (suc k)) (λ k within. same (suc k) (omega (arith, within))) in
    omega (arith, first, rest)

pub total-add : (n : ℕ) (f g : ℕ → ℕ) → total n (λ k. f k + g k) ≡ total n f + total n g
total-add zero f g = refl
total-add (suc n) f g = omega (arith, total-add n (λ k. f (suc k)) (λ k. g (suc k)))

pub total-le : (n : ℕ) (f g : ℕ → ℕ) → ((k : ℕ) → k < n → f k ≤ g k) → total n f ≤ total n g
total-le zero f g below = omega arith
total-le (suc n) f g below =
    let first : f 0 ≤ g 0 = below 0 (omega arith) in
    let rest : total n (λ k. f (suc k)) ≤ total n (λ k. g (suc k)) = total-le n (λ k. f (suc k)) (λ k. g (suc k)) (λ k within. below (suc k) (omega (arith, within))) in
    omega (arith, first, rest)

-- each of the parts of two sums that are equal is equal, where none is greater
pub total-tight : (n : ℕ) (f g : ℕ → ℕ) → ((k : ℕ) → k < n → f k ≤ g k) → total n g ≤ total n f → (k : ℕ) → k < n → f k ≡ g k
total-tight zero f g below same k within = absurd (omega (arith, within))
total-tight (suc n) f g below same zero within =
    let first : f 0 ≤ g 0 = below 0 (omega arith) in
    let rest : total n (λ k. f (suc k)) ≤ total n (λ k. g (suc k)) = total-le n (λ k. f (suc k)) (λ k. g (suc k)) (λ k within. below (suc k) (omega (arith, within))) in
    omega (arith, first, rest, same)
total-tight (suc n) f g below same (suc k) within =
    let first : f 0 ≤ g 0 = below 0 (omega arith) in
    total-tight n (λ k. f (suc k)) (λ k. g (suc k)) (λ k within. below (suc k) (omega (arith, within))) (omega (arith, first, same)) k (omega (arith, within))

pub total-single : (n at : ℕ) (f : ℕ → ℕ) → at < n → ((k : ℕ) → k ≢ at → f k ≡ 0) → total n f ≡ f at
total-single zero at f within none = absurd (omega (arith, within))
total-single (suc n) zero f within none =
    let rest : ◌≡◌ {A = ℕ} (total n (λ k. f (suc k))) 0 = total-zero n (λ k. f (suc k)) (λ k _. none (suc k) (omega arith)) in
    omega (arith, rest)
total-single (suc n) (suc at) f within none =
    let first : f 0 ≡ 0 = none 0 (omega arith) in
    let rest : total n (λ k. f (suc k)) ≡ f (suc at) = total-single n at (λ k. f (suc k)) (omega (arith, within)) (λ k apart. none (suc k) (λ same. apart (omega (arith, same)))) in
    omega (arith, first, rest)

-- sums over lists
pub total_of : {X : Type 0} (f : X → ℕ) (d : X) (xs : List X) → sum_by f xs ≡ total (length xs) (λ k. f (get_or xs k d))
total_of f d [] = refl
total_of f d (x ∷ xs) = sum_by-cons f x xs ∙ ap (λ n. f x + n) (total_of f d xs)

-- a sum of two parts, of those that are marked and of the others
pub total-split : (n : ℕ) (chosen : ℕ → Bool) (f : ℕ → ℕ) → total n f ≡ total n (λ k. when (chosen k) (f k)) + total n (λ k. when (not (chosen k)) (f k))
total-split n chosen f =
    total-same n f (λ k. when (chosen k) (f k) + when (not (chosen k)) (f k)) (λ k _. parts (chosen k) (f k))
    ∙ total-add n (λ k. when (chosen k) (f k)) (λ k. when (not (chosen k)) (f k))
  where
    parts : (b : Bool) (x : ℕ) → x ≡ when b x + when (not b) x
    parts true x = omega arith
    parts false x = omega arith

pub when-le : (b : Bool) (x y : ℕ) → x ≤ y → when b x ≤ when b y
when-le true x y below = below
when-le false x y below = omega arith
