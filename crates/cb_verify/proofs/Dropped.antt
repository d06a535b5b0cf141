-- Lists that are gone through from their front.
use Rattle.std.proofs.Common.{◌≡◌, ◌∙◌, ap, refl, arith, ℕ, zero, suc, ◌+◌, ◌≤◌, Bool, ◌&&◌, List, [], ◌∷◌, Some, drop, length, map}
use Rattle.std.specs.List.{list_all, slice_get}
use Rattle.std.proofs.lemmas.List.{drop_more}
use Rattle.std.proofs.lemmas.Option.{get_or_from_slice_get, slice_get_within}

-- the rest of a list from an item on, and at its end
pub drop_next : {X : Type 0} (items : List X) (place : ℕ) (item : X) → slice_get items place ≡ Some item → drop place items ≡ item ∷ drop (place + 1) items
drop_next items place item is =
    drop_more items place item (slice_get_within items place item is)
    ∙ ap (λ first. first ∷ drop (place + 1) items) (get_or_from_slice_get items place item item is)

pub drop_end : {X : Type 0} (items : List X) (place : ℕ) → length items ≤ place → drop place items ≡ []
drop_end [] zero past = refl
drop_end [] (suc place) past = refl
drop_end (item ∷ items) zero past = absurd (omega (arith, past))
drop_end (item ∷ items) (suc place) past = drop_end items place (omega (arith, past))

-- whether all of some pass, by what is taken of each
pub all_mapped : {X Y : Type 0} (test : X → Bool) (part : Y → X) (items : List Y) → list_all test (map part items) ≡ list_all (λ item. test (part item)) items
all_mapped test part [] = refl
all_mapped test part (item ∷ items) = ap (λ rest. test (part item) && rest) (all_mapped test part items)
