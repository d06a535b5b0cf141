-- What passes a test, of items that are numbered by their places.
use Rattle.std.proofs.Common.{◌≡◌, ◌∙◌, ap, ap₂, refl, subst, sym, arith, ℕ, zero, suc, ◌+◌, ◌<◌, ◌≤◌, Bool, true, false, cond, List, [], ◌∷◌, ◌++◌, Some, length, map, take}
use Rattle.std.specs.Prelude.{filter, slice_get}
use Rattle.std.specs.List.{AllByRecursion, enumerate_from}
use Rattle.std.proofs.lemmas.List.{append-nil, append_assoc, map-append}
use Rattle.std.proofs.lemmas.List.Elements.{filter-append}
use Rattle.std.proofs.lemmas.Option.{get_or_from_slice_get, slice_get_within}
use Rattle.cb_link.proofs.PlacedLaws.{longer, seam}
use Rattle.cb_link.proofs.PlacesLaws.{enumerate_more}

abbrev pub picked : {X Y : Type 0} → (ℕ × X → Bool) → (ℕ × X → Y) → List X → List Y
picked test say items = map say (filter test (enumerate_from 0 items))

-- one item more
pub picked_more : {X Y : Type 0} (test : ℕ × X → Bool) (say : ℕ × X → Y) (items : List X) (number : ℕ) (item : X) → slice_get items number ≡ Some item
    → picked test say (take (number + 1) items) ≡ picked test say (take number items) ++ cond (test (number, item)) (say (number, item) ∷ []) []
picked_more {X} {Y} test say items number item is =
    ap (λ numbered. map say (filter test numbered)) (enumerate_more items number item (slice_get_within items number item is) (sym (get_or_from_slice_get items number item item is)))
    ∙ ap (map say) (filter-append test (enumerate_from 0 (take number items)) ((number, item) ∷ []))
    ∙ map-append say (filter test (enumerate_from 0 (take number items))) (filter test ((number, item) ∷ []))
    ∙ ap (λ last. picked test say (take number items) ++ last) (go (test (number, item)))
  where
    go : (passes : Bool) → map say (cond passes ((number, item) ∷ []) []) ≡ cond passes (say (number, item) ∷ []) []
    go true = refl
    go false = refl

-- the numbers are below the count
pub numbers_low : {X : Type 0} (test : ℕ × X → Bool) (bound start : ℕ) (items : List X) → start + length items ≤ bound
    → AllByRecursion (λ number. number < bound) (map (λ entry. entry.0) (filter test (enumerate_from start items)))
numbers_low test bound start [] low = tt
numbers_low {X} test bound start (item ∷ items) low = go (test (start, item)) (numbers_low test bound (start + 1) items (omega (arith, low))) where
  go : (passes : Bool) → AllByRecursion (λ number. number < bound) (map (λ (entry : ℕ × X). entry.0) (filter test (enumerate_from (start + 1) items)))
      → AllByRecursion (λ number. number < bound) (map (λ (entry : ℕ × X). entry.0) (cond passes ((start, item) ∷ filter test (enumerate_from (start + 1) items)) (filter test (enumerate_from (start + 1) items))))
  go true rest = (omega (arith, low), rest)
  go false rest = rest

-- where it passes, and where it doesn't
pub picked_passed : {X Y : Type 0} (test : ℕ × X → Bool) (say : ℕ × X → Y) (items : List X) (number : ℕ) (item : X) (before after : List Y) → slice_get items number ≡ Some item
    → test (number, item) ≡ true → before ≡ picked test say (take number items) → after ≡ before ++ say (number, item) ∷ [] → after ≡ picked test say (take (number + 1) items)
picked_passed test say items number item before after is passes so adds =
    adds ∙ ap₂ (λ before passes. before ++ cond passes (say (number, item) ∷ []) []) so (sym passes) ∙ sym (picked_more test say items number item is)

pub picked_left : {X Y : Type 0} (test : ℕ × X → Bool) (say : ℕ × X → Y) (items : List X) (number : ℕ) (item : X) (before : List Y) → slice_get items number ≡ Some item
    → test (number, item) ≡ false → before ≡ picked test say (take number items) → before ≡ picked test say (take (number + 1) items)
picked_left test say items number item before is fails so =
    sym (append-nil before) ∙ ap₂ (λ before passes. before ++ cond passes (say (number, item) ∷ []) []) so (sym fails) ∙ sym (picked_more test say items number item is)

-- the number of an item that passes stands behind as many as pass before it
pub picked_at : {X : Type 0} (test : X → Bool) (start : ℕ) (items : List X) (number : ℕ) (item : X) → slice_get items number ≡ Some item → test item ≡ true
    → slice_get (map (λ entry. entry.0) (filter (λ entry. test entry.1) (enumerate_from start items))) (length (filter test (take number items))) ≡ Some (start + number)
picked_at test start [] number item is passes = absurd (cc)
picked_at {X} test start (first ∷ items) zero item is passes =
    let same : first ≡ item = cc in
    ap (λ passes. slice_get (map (λ (entry : ℕ × X). entry.0) (cond passes ((start, first) ∷ filter (λ entry. test entry.1) (enumerate_from (start + 1) items)) (filter (λ entry. test entry.1) (enumerate_from (start + 1) items)))) 0) (ap test same ∙ passes)
    ∙ ap Some (let same : start ≡ start + 0 = omega arith in same)
picked_at {X} test start (first ∷ items) (suc number) item is passes =
    go (test first) ∙ picked_at test (start + 1) items number item is passes ∙ ap Some (let same : start + 1 + number ≡ start + suc number = omega arith in same)
  where
    go : (passes : Bool) → slice_get (map (λ (entry : ℕ × X). entry.0) (cond passes ((start, first) ∷ filter (λ entry. test entry.1) (enumerate_from (start + 1) items)) (filter (λ entry. test entry.1) (enumerate_from (start + 1) items)))) (length (cond passes (first ∷ filter test (take number items)) (filter test (take number items))))
        ≡ slice_get (map (λ (entry : ℕ × X). entry.0) (filter (λ entry. test entry.1) (enumerate_from (start + 1) items))) (length (filter test (take number items)))
    go true = refl
    go false = refl

-- what is so of each that passes is so of all that are picked
pub all_picked : {X Y : Type 0} (P : Y → Type 0) (test : ℕ × X → Bool) (say : ℕ × X → Y) (front back : List X)
    → ((number : ℕ) (item : X) → slice_get (front ++ back) number ≡ Some item → test (number, item) ≡ true → P (say (number, item)))
    → AllByRecursion P (map say (filter test (enumerate_from (length front) back)))
all_picked P test say front [] each = tt
all_picked {X} {Y} P test say front (item ∷ back) each =
    go (test (length front, item)) refl
    (subst (λ start. AllByRecursion P (map say (filter test (enumerate_from start back)))) (longer front item)
    (all_picked P test say (front ++ item ∷ []) back (λ number other is. each number other (ap (λ items. slice_get items number) (sym (append_assoc front (item ∷ []) back)) ∙ is))))
  where
    go : (passes : Bool) → test (length front, item) ≡ passes → AllByRecursion P (map say (filter test (enumerate_from (length front + 1) back)))
        → AllByRecursion P (map say (cond passes ((length front, item) ∷ filter test (enumerate_from (length front + 1) back)) (filter test (enumerate_from (length front + 1) back))))
    go true told rest = (each (length front) item (seam front item back) told, rest)
    go false told rest = rest
