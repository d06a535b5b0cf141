-- What holds of the items of a list, and of those at its front.
use Rattle.std.proofs.Common.{◌≡◌, ◌∙◌, ap, refl, subst, arith, ℕ, zero, suc, ◌<◌, List, [], ◌∷◌, ◌++◌, length, map, slice_index_or, Contains}
use Rattle.std.specs.List.{AllByRecursion, AllPairs, flat_map}

pub all_front : {X : Type 0} (P : X → Type 0) (front back : List X) → AllByRecursion P (front ++ back) → AllByRecursion P front
all_front P [] back all = tt
all_front P (item ∷ front) back all = (all.0, all_front P front back all.1)

pub all_back : {X : Type 0} (P : X → Type 0) (front back : List X) → AllByRecursion P (front ++ back) → AllByRecursion P back
all_back P [] back all = all
all_back P (item ∷ front) back all = all_back P front back all.1

pub all_both : {X : Type 0} (P : X → Type 0) (front back : List X) → AllByRecursion P front → AllByRecursion P back → AllByRecursion P (front ++ back)
all_both P [] back all more = more
all_both P (item ∷ front) back all more = (all.0, all_both P front back all.1 more)

pub all_two : {X : Type 0} (P Q R : X → Type 0) → ((item : X) → P item → Q item → R item) → (items : List X) → AllByRecursion P items → AllByRecursion Q items → AllByRecursion R items
all_two P Q R each [] all too = tt
all_two P Q R each (item ∷ items) all too = (each item all.0 too.0, all_two P Q R each items all.1 too.1)

pub all_any : {X : Type 0} (P : X → Type 0) → ((item : X) → P item) → (items : List X) → AllByRecursion P items
all_any P each [] = tt
all_any P each (item ∷ items) = (each item, all_any P each items)

pub all_mapped : {X Y : Type 0} (P : Y → Type 0) (f : X → Y) (items : List X) → AllByRecursion (λ item. P (f item)) items → AllByRecursion P (map f items)
all_mapped P f [] all = tt
all_mapped P f (item ∷ items) all = (all.0, all_mapped P f items all.1)

pub all_of_map : {X Y : Type 0} (P : Y → Type 0) (f : X → Y) (items : List X) → AllByRecursion P (map f items) → AllByRecursion (λ item. P (f item)) items
all_of_map P f [] all = tt
all_of_map P f (item ∷ items) all = (all.0, all_of_map P f items all.1)

-- of what each item gives
pub all_of_flat : {X Y : Type 0} (P : Y → Type 0) (f : X → List Y) (items : List X) → AllByRecursion P (flat_map f items) → AllByRecursion (λ item. AllByRecursion P (f item)) items
all_of_flat P f [] all = tt
all_of_flat P f (item ∷ items) all = (all_front P (f item) (flat_map f items) all, all_of_flat P f items (all_back P (f item) (flat_map f items) all))

pub all_flat : {X Y : Type 0} (P : Y → Type 0) (f : X → List Y) (items : List X) → AllByRecursion (λ item. AllByRecursion P (f item)) items → AllByRecursion P (flat_map f items)
all_flat P f [] all = tt
all_flat P f (item ∷ items) all = all_both P (f item) (flat_map f items) all.0 (all_flat P f items all.1)

-- equal of each item
pub map_each : {X Y : Type 0} (f g : X → Y) (items : List X) → AllByRecursion (λ item. f item ≡ g item) items → map f items ≡ map g items
map_each f g [] all = refl
map_each f g (item ∷ items) all = ap (λ first. first ∷ map f items) all.0 ∙ ap (λ rest. g item ∷ rest) (map_each f g items all.1)

-- pairs, by the first item and the others
item_at : {X : Type 0} (P : X → Type 0) (items : List X) (place : ℕ) (item : X) → AllByRecursion P items → place < length items → P (slice_index_or items place item)
item_at P [] place item all within = absurd (omega (arith, within))
item_at P (first ∷ items) zero item all within = all.0
item_at P (first ∷ items) (suc place) item all within = item_at P items place item all.1 (omega (arith, within))

all_at : {X : Type 0} (P : X → Type 0) (items : List X) → ((place : ℕ) (item : X) → place < length items → P (slice_index_or items place item)) → AllByRecursion P items
all_at P [] at = tt
all_at P (first ∷ items) at = (at zero first (omega arith), all_at P items (λ place item within. at (suc place) item (omega (arith, within))))

pub pairs_first : {X : Type 0} (R : X → X → Type 0) (first : X) (items : List X) → AllPairs R (first ∷ items) → AllByRecursion (R first) items
pairs_first R first items pairs = all_at (R first) items (λ place item within. pairs zero (suc place) item (omega arith) (omega (arith, within)))

pub pairs_rest : {X : Type 0} (R : X → X → Type 0) (first : X) (items : List X) → AllPairs R (first ∷ items) → AllPairs R items
pairs_rest R first items pairs = λ one other item below within. pairs (suc one) (suc other) item (omega (arith, below)) (omega (arith, within))

pub pairs_none : {X : Type 0} (R : X → X → Type 0) → AllPairs R []
pairs_none R = λ one other item below within. absurd (omega (arith, below, within))

pub pairs_more : {X : Type 0} (R : X → X → Type 0) (first : X) (items : List X) → AllByRecursion (R first) items → AllPairs R items → AllPairs R (first ∷ items)
pairs_more R first items all pairs = by_places where
  by_places : AllPairs R (first ∷ items)
  by_places one zero item below within = absurd (omega (arith, below))
  by_places zero (suc other) item below within = item_at (R first) items other item all (omega (arith, within))
  by_places (suc one) (suc other) item below within = pairs one other item (omega (arith, below)) (omega (arith, within))

pub pairs_front : {X : Type 0} (R : X → X → Type 0) (front back : List X) → AllPairs R (front ++ back) → AllPairs R front
pairs_front R [] back pairs = pairs_none R
pairs_front R (first ∷ front) back pairs =
    pairs_more R first front (all_front (R first) front back (pairs_first R first (front ++ back) pairs)) (pairs_front R front back (pairs_rest R first (front ++ back) pairs))

-- the items of two lists, where each of the one differs from each of the other
pub pairs_both : {X : Type 0} (R : X → X → Type 0) (front back : List X) → AllPairs R front → AllPairs R back → AllByRecursion (λ one. AllByRecursion (R one) back) front → AllPairs R (front ++ back)
pairs_both R [] back pairs more across = more
pairs_both R (first ∷ front) back pairs more across =
    pairs_more R first (front ++ back) (all_both (R first) front back (pairs_first R first front pairs) across.0) (pairs_both R front back (pairs_rest R first front pairs) more across.1)

-- what is among the items
pub among_all : {X : Type 0} (P : X → Type 0) (items : List X) (item : X) → Contains items item → AllByRecursion P items → P item
among_all P items item (place, within, is) all = subst P is (item_at P items place item all within)

pub among_first : {X : Type 0} (first : X) (items : List X) → Contains (first ∷ items) first
among_first first items = (zero, omega arith, refl)

pub among_rest : {X : Type 0} (first : X) (items : List X) (item : X) → Contains items item → Contains (first ∷ items) item
among_rest first items item (place, within, is) = (suc place, omega (arith, within), is)
