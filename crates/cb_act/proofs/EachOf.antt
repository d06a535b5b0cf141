-- What holds of each item of a list.
use Rattle.std.proofs.Common.{◌≡◌, subst, ℕ, zero, suc, List, [], ◌∷◌, ◌++◌, Some, slice_get}
use Rattle.std.specs.List.{AllByRecursion}
use Rattle.std.proofs.lemmas.Option.{same_Some}

pub all_at : {Item : Type 0} (P : Item → Type 0) (items : List Item) (place : ℕ) (item : Item) → AllByRecursion P items → slice_get items place ≡ Some item → P item
all_at P [] place item all is = absurd (cc is)
all_at P (first ∷ items) zero item all is = subst P (same_Some first item is) all.0
all_at P (first ∷ items) (suc place) item all is = all_at P items place item all.1 is

pub all_joined : {Item : Type 0} (P : Item → Type 0) (front back : List Item) → AllByRecursion P front → AllByRecursion P back → AllByRecursion P (front ++ back)
all_joined P [] back one other = other
all_joined P (item ∷ front) back one other = (one.0, all_joined P front back one.1 other)
