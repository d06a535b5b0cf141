-- Items at places of lists that are put together or cut.
use Rattle.std.proofs.Common.{◌≡◌, ◌≢◌, refl, ap, ◌∙◌, arith, ℕ, zero, suc, ◌+◌, ◌-◌, ◌≤◌, List, [], ◌∷◌, ◌++◌, length, drop, replicate}
use Rattle.std.specs.List.{slice_get}

pub get_behind : {X : Type 0} (xs ys : List X) (i : ℕ) → slice_get (xs ++ ys) (length xs + i) ≡ slice_get ys i
get_behind [] ys i = ap (slice_get ys) (omega arith)
get_behind (x ∷ xs) ys i = ap (slice_get (x ∷ xs ++ ys)) (let at : length (x ∷ xs) + i ≡ suc (length xs + i) = omega arith in at) ∙ get_behind xs ys i

pub get_right : {X : Type 0} (xs ys : List X) (n i : ℕ) → length xs ≡ n → n ≤ i → slice_get (xs ++ ys) i ≡ slice_get ys (i - n)
get_right xs ys n i len past = ap (slice_get (xs ++ ys)) (let at : i ≡ length xs + (i - n) = omega arith in at) ∙ get_behind xs ys (i - n)

pub get_dropped : {X : Type 0} (n i : ℕ) (xs : List X) → slice_get (drop n xs) i ≡ slice_get xs (n + i)
get_dropped zero i xs = ap (slice_get xs) (omega arith)
get_dropped (suc n) i [] = refl
get_dropped (suc n) i (x ∷ xs) = get_dropped n i xs ∙ ap (slice_get (x ∷ xs)) (let at : suc (n + i) ≡ suc n + i = omega arith in at)

-- nothing in front of nothing
pub filled_nothing : {X : Type 0} (xs : List X) (item : X) → length xs ≡ 0 → [] ≡ replicate (length xs) item ++ xs
filled_nothing [] item none = refl
filled_nothing (x ∷ xs) item none = absurd (omega (arith, none))

-- items behind one over and over, but for one of these
pub drop_filled : {X : Type 0} (n : ℕ) (item : X) (xs : List X) → drop n (replicate (suc n) item ++ xs) ≡ item ∷ xs
drop_filled zero item xs = refl
drop_filled (suc n) item xs = drop_filled n item xs

pub drop_behind : {X : Type 0} (n : ℕ) (item : X) (xs all : List X) → length xs ≢ 0 → all ≡ replicate (length xs) item ++ xs → n ≡ length xs - 1 → drop n all ≡ item ∷ xs
drop_behind n item [] all some is at = absurd (some refl)
drop_behind n item (x ∷ xs) all some is at =
    ap (λ m. drop m all) (let same : n ≡ length xs = omega arith in same) ∙ ap (drop (length xs)) is ∙ drop_filled (length xs) item (x ∷ xs)
