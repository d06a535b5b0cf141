-- Lists of which each item says something of the one at its place in another.
use Rattle.std.proofs.Common.{◌≡◌, ◌∙◌, ap, sym, refl, subst, arith, ℕ, zero, suc, ◌+◌, ◌<◌, ◌≤◌, List, [], ◌∷◌, ◌++◌, length, map, take, get_or}
use Rattle.std.specs.List.{AllByRecursion, AllZip}
use Rattle.std.proofs.lemmas.List.{map-append, take_more}

pub zip_both : {X Y : Type 0} (R : X → Y → Type 0) (xs : List X) (ys : List Y) (x : X) (y : Y) → AllZip R xs ys → R x y → AllZip R (xs ++ x ∷ []) (ys ++ y ∷ [])
zip_both R [] [] x y all here = (here, tt)
zip_both R [] (other ∷ ys) x y all here = absurd all
zip_both R (one ∷ xs) [] x y all here = absurd all
zip_both R (one ∷ xs) (other ∷ ys) x y all here = (all.0, zip_both R xs ys x y all.1 here)

pub zip_each : {X Y : Type 0} (R Q : X → Y → Type 0) → ((x : X) (y : Y) → R x y → Q x y) → (xs : List X) (ys : List Y) → AllZip R xs ys → AllZip Q xs ys
zip_each R Q each [] [] all = tt
zip_each R Q each [] (other ∷ ys) all = absurd all
zip_each R Q each (one ∷ xs) [] all = absurd all
zip_each R Q each (one ∷ xs) (other ∷ ys) all = (each one other all.0, zip_each R Q each xs ys all.1)

-- what an item and the other say of the other
pub zip_of : {X Y : Type 0} (P : X → Type 0) (R : X → Y → Type 0) (Q : Y → Type 0) → ((x : X) (y : Y) → P x → R x y → Q y) → (xs : List X) (ys : List Y) → AllByRecursion P xs → AllZip R xs ys → AllByRecursion Q ys
zip_of P R Q each [] [] all zipped = tt
zip_of P R Q each [] (other ∷ ys) all zipped = absurd zipped
zip_of P R Q each (one ∷ xs) [] all zipped = absurd zipped
zip_of P R Q each (one ∷ xs) (other ∷ ys) all zipped = (each one other all.0 zipped.0, zip_of P R Q each xs ys all.1 zipped.1)

-- the items so far and the next, where the first list is made of another
pub zip_more : {X Made Y : Type 0} (f : X → Made) (R : Made → Y → Type 0) (xs : List X) (ys : List Y) (i : ℕ) (d : X) (y : Y) → i < length xs → AllZip R (map f (take i xs)) ys → R (f (get_or xs i d)) y → AllZip R (map f (take (i + 1) xs)) (ys ++ y ∷ [])
zip_more f R xs ys i d y below all here =
    let more : map f (take (i + 1) xs) ≡ map f (take i xs) ++ f (get_or xs i d) ∷ [] = ap (map f) (take_more xs i d below) ∙ map-append f (take i xs) (get_or xs i d ∷ []) in
    subst (λ front. AllZip R front (ys ++ y ∷ [])) (sym more) (zip_both R (map f (take i xs)) ys (f (get_or xs i d)) y all here)

pub take_past : {X : Type 0} (xs : List X) (i : ℕ) → length xs ≤ i → take i xs ≡ xs
take_past [] zero past = refl
take_past [] (suc i) past = refl
take_past (x ∷ xs) zero past = absurd (omega (arith, past))
take_past (x ∷ xs) (suc i) past = ap (λ rest. x ∷ rest) (take_past xs i (omega (arith, past)))

pub zip_all : {X Made Y : Type 0} (f : X → Made) (R : Made → Y → Type 0) (xs : List X) (ys : List Y) (i : ℕ) → length xs ≤ i → AllZip R (map f (take i xs)) ys → AllZip R (map f xs) ys
zip_all f R xs ys i past all = subst (λ front. AllZip R (map f front) ys) (take_past xs i past) all

-- what holds of what each is made
pub made_at : {X Made : Type 0} (f : X → Made) (P : Made → Type 0) (xs : List X) (i : ℕ) (d : X) → i < length xs → AllByRecursion P (map f xs) → P (f (get_or xs i d))
made_at f P [] i d below all = absurd (omega arith)
made_at f P (x ∷ xs) zero d below all = all.0
made_at f P (x ∷ xs) (suc i) d below all = made_at f P xs i d (omega arith) all.1
