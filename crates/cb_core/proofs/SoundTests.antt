-- What tests say of numbers and texts, and of each item of a list.
use Rattle.std.proofs.Common.{◌≡◌, refl, subst, arith, ℕ, zero, suc, ◌<◌, ◌≤◌, ◌≢◌, ◌⊎◌, inl, inr, Bool, true, false, ◌&&◌, ◌||◌, not, List, [], ◌∷◌, length, slice_index_or, Option, Some, None, is_none, nat_eq, nat_lt, nat_le}
use Rattle.std.specs.List.{AllByRecursion, AllPairs, list_all}
use Rattle.std.specs.Str.{bytes_eq}
use Rattle.std.proofs.lemmas.Bool.Decides.{nat_tests}
use Rattle.std.proofs.lemmas.Slice.Eq.{bytes_eq-Decides}

pub both : (one other : Bool) → (one && other) ≡ true → (one ≡ true) × (other ≡ true)
both true other is = (refl, is)
both false other is = absurd (grind (arith, is))

pub either : (one other : Bool) → (one || other) ≡ true → (one ≡ true) ⊎ (other ≡ true)
either true other is = inl refl
either false other is = inr is

pub refused : (test : Bool) → not test ≡ true → test ≡ true → ⊥
refused true is passed = absurd (grind (arith, is))
refused false is passed = absurd (grind (arith, passed))

-- the second where the first is
pub then : (one other : Bool) → (not one || other) ≡ true → one ≡ true → other ≡ true
then true other is passed = is
then false other is passed = absurd (grind (arith, passed))

pub below : (one other : ℕ) → nat_lt one other ≡ true → one < other
below one other is = grind (arith, nat_tests, is)

pub within : (one other : ℕ) → nat_le one other ≡ true → one ≤ other
within one other is = grind (arith, nat_tests, is)

pub equal : (one other : ℕ) → nat_eq one other ≡ true → one ≡ other
equal one other is = grind (arith, nat_tests, is)

pub unequal : (one other : ℕ) → not (nat_eq one other) ≡ true → one ≢ other
unequal one other is same = refused (nat_eq one other) is (grind (arith, nat_tests, same))

pub one_text : (one other : List ℕ) → bytes_eq one other ≡ true → one ≡ other
one_text one other is = (bytes_eq-Decides one other).0 is

pub itself : (text : List ℕ) → bytes_eq text text ≡ true
itself text = (bytes_eq-Decides text text).1 refl

pub other_text : (one other : List ℕ) → not (bytes_eq one other) ≡ true → one ≢ other
other_text one other is same = refused (bytes_eq one other) is ((bytes_eq-Decides one other).1 same)

pub none : {X : Type 0} (option : Option X) → is_none option ≡ true → option ≡ None
none None is = refl
none (Some item) is = absurd (grind (arith, is))

-- each item that passes is so
pub each : {X : Type 0} (test : X → Bool) (Is : X → Type 0) → ((item : X) → test item ≡ true → Is item) → (items : List X) → list_all test items ≡ true → AllByRecursion Is items
each test Is sure [] is = tt
each test Is sure (item ∷ items) is = let two = both _ _ is in (sure item two.0, each test Is sure items two.1)

-- whether no item is the same as one behind it
abbrev pub distinct : {X : Type 0} → (X → X → Bool) → List X → Bool
distinct same [] = true
distinct same (item ∷ items) = list_all (λ other. not (same item other)) items && distinct same items

item_at : {X : Type 0} (P : X → Type 0) (items : List X) (place : ℕ) (item : X) → AllByRecursion P items → place < length items → P (slice_index_or items place item)
item_at P [] place item all short = absurd (omega (arith, short))
item_at P (first ∷ items) zero item all short = all.0
item_at P (first ∷ items) (suc place) item all short = item_at P items place item all.1 (omega (arith, short))

pairs_more : {X : Type 0} (R : X → X → Type 0) (first : X) (items : List X) → AllByRecursion (R first) items → AllPairs R items → AllPairs R (first ∷ items)
pairs_more R first items all pairs = by_places where
  by_places : AllPairs R (first ∷ items)
  by_places one zero item before short = absurd (omega (arith, before))
  by_places zero (suc other) item before short = item_at (R first) items other item all (omega (arith, short))
  by_places (suc one) (suc other) item before short = pairs one other item (omega (arith, before)) (omega (arith, short))

pub differ : {X : Type 0} (same : X → X → Bool) → ((item : X) → same item item ≡ true) → (items : List X) → distinct same items ≡ true → AllPairs (λ one other. one ≢ other) items
differ same alike [] is = λ one other item before short. absurd (omega (arith, before, short))
differ {X} same alike (item ∷ items) is =
    let two = both _ _ is in
    pairs_more (λ one other. one ≢ other) item items (each (λ other. not (same item other)) (λ other. item ≢ other) (another item) items two.0) (differ same alike items two.1) where
      another : (one other : X) → not (same one other) ≡ true → one ≢ other
      another one other apart is = refused (same one other) apart (subst (λ other. same one other ≡ true) is (alike one))
