-- Rows that are made entry by entry.
use Rattle.std.proofs.Common.{◌≡◌, ◌≢◌, ◌∙◌, ap, refl, sym, subst, arith, ℕ, zero, suc, ◌+◌, ◌<◌, inl, inr, List, [], ◌∷◌, ◌++◌, Some, length, map, set, get_or, get_or-set_same, length-set}
use Rattle.std.specs.Prelude.{slice_get, unwrap_or}
use Rattle.std.specs.List.{AllByRecursion}
use Rattle.std.proofs.lemmas.Bool.{cases_eq}
use Rattle.std.proofs.lemmas.List.{get_or_append_left, get_or_push, length_push}
use Rattle.std.proofs.lemmas.Option.{get_or_from_slice_get, slice_get-get_or, slice_get_within}
use Rattle.cb_hierarchy.specs.declared.member.Declared.{Declared}
use Rattle.cb_hierarchy.specs.InnerReaching.{AreFirst}

-- one item more
pub pushed : {X : Type 0} (count : ℕ) (expected : ℕ → X) (items : List X) (item : X) → length items ≡ count → AreFirst count expected items → item ≡ expected count
    → AreFirst (count + 1) expected (items ++ item ∷ [])
pushed count expected items item many first is place below =
    slice_get-get_or (items ++ item ∷ []) place item (omega (arith, length_push items item))
    ∙ ap Some (elim (cases_eq place count) as (λ _. get_or (items ++ item ∷ []) place item ≡ expected place) [
      | inl same ↦ get_or_push items item item place (omega (arith, many, same)) ∙ is ∙ ap expected (sym same)
      | inr apart ↦ get_or_append_left items (item ∷ []) item place (omega (arith, many)) ∙ get_or_from_slice_get items place (expected place) item (first place (omega arith))
    ])

-- what is so of all members is so of each
pub signature_below : {X : Type 0} (declared : X → Declared) (items : List X) (limit place : ℕ) (item : X) → AllByRecursion (λ member. member.signature < limit) (map declared items)
    → slice_get items place ≡ Some item → (declared item).signature < limit
signature_below declared [] limit place item all is = absurd (let h : place < 0 = slice_get_within [] place item is in omega (arith, h))
signature_below declared (first ∷ items) limit zero item all is =
    subst (λ member. member.signature < limit) (ap (λ found. declared (unwrap_or found item)) is) all.0
signature_below declared (first ∷ items) limit (suc place) item all is = signature_below declared items limit place item all.1 is

-- an item within
pub there : {X : Type 0} (items : List X) (place : ℕ) → place < length items → (item : X) × (slice_get items place ≡ Some item)
there [] place within = absurd (omega (arith, within))
there (first ∷ items) zero within = (first, refl)
there (first ∷ items) (suc place) within = there items place (omega (arith, within))

-- what a list has after a write
pub slice_get_same : {X : Type 0} (items : List X) (place : ℕ) (item : X) → place < length items → slice_get (set items place item) place ≡ Some item
slice_get_same items place item within =
    slice_get-get_or (set items place item) place item (omega (arith, length-set items place item)) ∙ ap Some (get_or-set_same items place item item within)

pub slice_get_other : {X : Type 0} (items : List X) (place other : ℕ) (item : X) → other ≢ place → slice_get (set items place item) other ≡ slice_get items other
slice_get_other [] place other item apart = refl
slice_get_other (first ∷ items) zero zero item apart = absurd (apart refl)
slice_get_other (first ∷ items) zero (suc other) item apart = refl
slice_get_other (first ∷ items) (suc place) zero item apart = refl
slice_get_other (first ∷ items) (suc place) (suc other) item apart = slice_get_other items place other item (λ same. apart (ap suc same))
