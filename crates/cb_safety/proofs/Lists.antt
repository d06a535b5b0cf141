-- What is so of all items of lists.
use Rattle.std.proofs.Common.{◌≡◌, subst, arith, ℕ, zero, suc, Bool, true, false, cond, List, [], ◌∷◌, ◌++◌, filter, take, Some}
use Rattle.std.specs.Prelude.{slice_get}
use Rattle.std.specs.List.{AllByRecursion, Contains, flat_map}

pub nothing : {Item : Type 0} (item : Item) → Contains [] item → ⊥
nothing item (place, low, is) = omega (arith, low)

pub all_both : {Item : Type 0} (P : Item → Type 0) (front back : List Item) → AllByRecursion P front → AllByRecursion P back → AllByRecursion P (front ++ back)
all_both P [] back one other = other
all_both P (item ∷ front) back one other = (one.0, all_both P front back one.1 other)

-- where what is so of items makes another thing so of all that each gives
pub all_given : {Item Part : Type 0} (P : Item → Type 0) (Q : Part → Type 0) (parts : Item → List Part) (items : List Item) → ((item : Item) → P item → AllByRecursion Q (parts item))
    → AllByRecursion P items → AllByRecursion Q (flat_map parts items)
all_given P Q parts [] each all = tt
all_given P Q parts (item ∷ items) each all = all_both Q (parts item) (flat_map parts items) (each item all.0) (all_given P Q parts items each all.1)

pub all_lists : {Item Part : Type 0} (Q : Part → Type 0) (parts : Item → List Part) (items : List Item) → ((item : Item) → AllByRecursion Q (parts item)) → AllByRecursion Q (flat_map parts items)
all_lists Q parts [] each = tt
all_lists Q parts (item ∷ items) each = all_both Q (parts item) (flat_map parts items) (each item) (all_lists Q parts items each)

pub all_taken : {Item : Type 0} (P : Item → Type 0) (count : ℕ) (items : List Item) → AllByRecursion P items → AllByRecursion P (take count items)
all_taken P zero items all = tt
all_taken P (suc count) [] all = tt
all_taken P (suc count) (item ∷ items) all = (all.0, all_taken P count items all.1)

pub all_filtered : {Item : Type 0} (P : Item → Type 0) (keeps : Item → Bool) (items : List Item) → AllByRecursion P items → AllByRecursion P (filter keeps items)
all_filtered P keeps [] all = tt
all_filtered {Item} P keeps (item ∷ items) all = go (keeps item) (all_filtered P keeps items all.1) where
  go : (kept : Bool) → AllByRecursion P (filter keeps items) → AllByRecursion P (cond kept (item ∷ filter keeps items) (filter keeps items))
  go true rest = (all.0, rest)
  go false rest = rest

pub all_at : {Item : Type 0} (P : Item → Type 0) (items : List Item) (place : ℕ) (item : Item) → AllByRecursion P items → slice_get items place ≡ Some item → P item
all_at P [] place item all is = absurd (cc is)
all_at P (first ∷ items) zero item all is = let same : first ≡ item = cc in subst P same all.0
all_at P (first ∷ items) (suc place) item all is = all_at P items place item all.1 is
