-- From tests over a whole list to what they say of its items.
use Rattle.std.proofs.Common.{◌≡◌, ◌∙◌, ap, sym, refl, arith, ℕ, zero, suc, Bool, true, false, ◌&&◌, not, List, [], ◌∷◌, slice_get, Some}
use Rattle.std.specs.List.{list_all}
use Rattle.std.proofs.lemmas.Option.{same_Some}

-- whether no item is the same as one behind it
abbrev pub distinct : {Item : Type 0} → (Item → Item → Bool) → List Item → Bool
distinct same [] = true
distinct same (item ∷ items) = list_all (λ other. not (same item other)) items && distinct same items

pub both : (one other : Bool) → (one && other) ≡ true → (one ≡ true) × (other ≡ true)
both true other is = (refl, is)
both false other is = absurd (grind (arith, is))

-- what is tested of each item is true of the one at a place
pub all_at : {Item : Type 0} (test : Item → Bool) (items : List Item) (place : ℕ) (item : Item) → list_all test items ≡ true → slice_get items place ≡ Some item → test item ≡ true
all_at test [] place item each is = absurd (grind (arith, is))
all_at test (first ∷ items) zero item each is = ap test (sym (same_Some first item is)) ∙ (both _ _ each).0
all_at test (first ∷ items) (suc place) item each is = all_at test items place item (both _ _ each).1 is

differ : {Item : Type 0} (same : Item → Item → Bool) (first one other : Item) → first ≡ one → not (same first other) ≡ true → same one other ≡ true → ⊥
differ same first one other is differs alike = let there : same first other ≡ true = ap (λ item. same item other) is ∙ alike in grind (arith, there, differs)

-- items that are the same stand at one place
pub one_place : {Item : Type 0} (same : Item → Item → Bool) (items : List Item) (place place_too : ℕ) (one other : Item) → distinct same items ≡ true → slice_get items place ≡ Some one → slice_get items place_too ≡ Some other → same one other ≡ true → same other one ≡ true → place ≡ place_too
one_place same [] place place_too one other apart is are alike alike_too = absurd (grind (arith, is))
one_place same (item ∷ items) zero zero one other apart is are alike alike_too = refl
one_place same (item ∷ items) zero (suc place_too) one other apart is are alike alike_too =
    absurd (differ same item one other (same_Some item one is) (all_at (λ next. not (same item next)) items place_too other (both _ _ apart).0 are) alike)
one_place same (item ∷ items) (suc place) zero one other apart is are alike alike_too =
    absurd (differ same item other one (same_Some item other are) (all_at (λ next. not (same item next)) items place one (both _ _ apart).0 is) alike_too)
one_place same (item ∷ items) (suc place) (suc place_too) one other apart is are alike alike_too = ap suc (one_place same items place place_too one other (both _ _ apart).1 is are alike alike_too)
